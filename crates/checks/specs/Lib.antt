-- Document 01, 'Lists that are sent back', for the checks of any call: the first refusal, and what a call leaves in a row that it is lent.
-- Assumes nothing.
pub mod Checks
pub mod Outcome
