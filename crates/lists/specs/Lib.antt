-- Lists of numbers: what the definitions of every other crate are written with. Assumes nothing.
pub mod Search
pub mod Select
pub mod Stores
