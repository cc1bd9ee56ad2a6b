-- What the code reads of one cable and of its line (Code), and what the two fields of a word hold (Columns). Assumes nothing.
pub mod Columns
pub mod Code
