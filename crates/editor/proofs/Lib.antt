-- Laws of the list in a row, of a list with one more cable, and of runs of operations. Assumes nothing.
pub mod Computing
pub mod Table
pub mod Tests
pub mod Rows
pub mod Followed
pub mod Longer
pub mod Verdicts
pub mod Commits
pub mod Refusals
pub mod Behind
pub mod Effects
pub mod Runs
