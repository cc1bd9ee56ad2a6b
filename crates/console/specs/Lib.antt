-- What is read from standard input. Assumes nothing.
pub mod Input
