-- Document 01, the paragraph 'A spot is a whole x with a whole y': spots, runs and lines, how they meet, and whether two lines cross.
-- Assumes nothing.
pub mod Spots
pub mod Lines
pub mod Crossing
