-- How a box grows (Grown), that the box of some points is the smallest (Smallest). Assumes nothing.
pub mod Grown
pub mod Smallest
