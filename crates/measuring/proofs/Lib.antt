-- The law of check 14. Assumes nothing.
pub mod Heads
