-- Document 01, 'Columns and rows', with request 2026-04, in ranks: a cable is its line, with the ranks of its two parts. Assumes nothing.
pub mod Ports
pub mod Columns
pub mod Points
pub mod Layout
-- What only laws and the contracts of code cite
pub mod Over
pub mod Courses
