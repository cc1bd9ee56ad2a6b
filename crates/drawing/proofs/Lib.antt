-- Laws of drawings: an arc for each pair of lines that cross (Arcs), the lengths of lines (Lengths) and their words (LengthWords), drawings
-- that are spaced (Spaced, SpacedCrossings) and whose numbers fit (Fields), all words read back (ReadBack, Measured) and counted
-- (WordCounts), other numbers of the parts (Renumbered), sizes (Sized), what the cables cost behind them (Quoted), and small examples
-- (Worked). Assumes nothing.
pub mod Arcs
pub mod Lengths
pub mod LengthWords
pub mod Inside
pub mod Pairs
pub mod Spaced
pub mod SpacedCrossings
pub mod Fields
pub mod ReadBack
pub mod Measured
pub mod WordCounts
pub mod Renumbered
pub mod Sized
pub mod Quoted
pub mod Computing
pub mod Worked
