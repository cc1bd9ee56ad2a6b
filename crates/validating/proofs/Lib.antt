-- What the checks of a sheet decide, one behind the other (Deciding). Assumes nothing.
pub mod Deciding
