-- Laws of paths, of checks 9 and 10 and of the order. Assumes nothing.
use Rattle.checks.specs.Checks.{passed}
pub mod Computing
pub mod Worked
pub mod Joins
pub mod Paths
pub mod Reach
pub mod Checks
pub mod AllChecks
pub mod CutParts
pub mod Bipolar
pub mod Candidates
pub mod Completion
pub mod StOrder
pub mod StOrderings
pub mod Rule
pub mod Ranks
pub mod Graphs
pub mod Orientation
pub mod Passed
pub mod SeparatingParts
pub mod Triangle
