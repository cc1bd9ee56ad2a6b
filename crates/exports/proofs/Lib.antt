-- What follows for a caller: bounds of the result and of the words, the length of output that always suffices (Bounds), and that a call is
-- determined (Calls); an answer told (Telling). Assumes nothing.
pub mod Bounds
pub mod Calls
pub mod Telling
