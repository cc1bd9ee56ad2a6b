-- Laws that the pass over the ranks rests on. Assumes nothing.
pub mod Arriving
pub mod Passing
