-- Document 01, 'The words', with the kinds of requests 2026-01, 2026-05, 2026-08 and 2026-10, and its limits. Assumes nothing.
pub mod Words
pub mod Limits
-- What only the contracts of code cite
pub mod Rooms
