-- Laws of the reader: the tests and searches of check 19 (Faults). Assumes nothing.
pub mod Faults
