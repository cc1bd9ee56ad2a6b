-- The rows that a line reaches (Rows), what can be swept (Able), what the code of the sweep keeps (Code), and the drawing that it sweeps
-- (Drawn). Assumes nothing.
pub mod Rows
pub mod Able
pub mod Code
pub mod Drawn
