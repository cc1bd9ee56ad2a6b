-- What the code finds in the tables (Code). Assumes nothing.
pub mod Code
