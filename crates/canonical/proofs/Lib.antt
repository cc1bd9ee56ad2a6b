-- Laws of a list's canonical form. Assumes nothing.
pub mod Computing
pub mod Table
pub mod Turned
pub mod Cables
pub mod Canonical
pub mod Passes
pub mod Orders
pub mod Answers
