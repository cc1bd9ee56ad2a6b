-- The station that a list describes, and checks 1 to 8 of document 01. Assumes nothing.
pub mod Station
pub mod Checks
-- What a pass leaves, repeated cables, and other limits of parts, of which only laws speak
pub mod Code
pub mod Repeats
pub mod PartLimit
