-- What the pass over the ranks keeps. Assumes nothing.
pub mod Pass
