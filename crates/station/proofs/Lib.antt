-- Laws of checks 1 to 8 and of the station that a list describes. Assumes nothing.
use Rattle.checks.specs.Checks.{passed}
pub mod Computing
pub mod Worked
pub mod Numbers
pub mod Tests
pub mod UpTo
pub mod Each
pub mod Cables
pub mod Handshake
pub mod Passed
pub mod Simple
pub mod PartLimit
