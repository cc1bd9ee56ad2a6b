-- What the code of checks 9 and 10 keeps. Assumes nothing.
pub mod Tables
