-- Request 2026-08: the second row of words, routes and their levels, what holds of the two levels of a part, and what the call answers.
-- Assumes nothing.
pub mod Level
pub mod Sorts
pub mod SignalPaths
pub mod Promises
pub mod Outcome
-- What only laws and the contracts of code cite
pub mod Readings
