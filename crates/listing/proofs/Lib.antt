-- Laws that the code of checks 1 to 8 rests on. Assumes nothing.
pub mod Counting
