-- Laws of signal levels. Assumes nothing.
pub mod Computing
pub mod Table
pub mod Values
pub mod Exact
pub mod Order
pub mod Extremes
pub mod SignalPaths
pub mod LeastGreatest
pub mod Bounds
pub mod Floats
pub mod Promises
pub mod Tests
pub mod RowChecks
pub mod Answers
pub mod SameStations
