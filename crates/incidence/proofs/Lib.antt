-- Laws of the lines at one rank: put in by their keys (Insertion, LinesFrom), the line that is set apart (LineSearch), at most four (Few).
-- Assumes nothing.
pub mod Insertion
pub mod LineSearch
pub mod LinesFrom
pub mod Few
