-- Laws of the count. Assumes nothing.
pub mod CrossingCounts
