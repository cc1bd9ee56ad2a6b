-- Request 2026-10: pointing at the screen. What lies at a mark (Hits), and the same as a claim (Lying); a cable's own words and its box
-- (Selection); the checks and what each call answers (Outcome). Assumes nothing.
pub mod Hits
pub mod Lying
pub mod Selection
pub mod Outcome
