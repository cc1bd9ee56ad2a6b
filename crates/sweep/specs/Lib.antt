-- The sweep that finds the lines which break the rules: the visits of a line in a row (Visits), the tables (Boards), the rows one after
-- the other (Sweep), what the tables find, said without them (Rows), and what that says of a sheet (Judged). Assumes nothing.
pub mod Visits
pub mod Boards
pub mod Sweep
pub mod Rows
pub mod Judged
