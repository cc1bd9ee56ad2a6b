-- What only the contracts of code cite: a sheet's head. Assumes nothing.
pub mod Heads
