-- Laws of the buckets, of how they are filled, and of the insertion sort. Assumes nothing.
pub mod BucketLaws
pub mod Filling
pub mod Inserting
pub mod Passed
pub mod Rows
