-- Laws of the checks of a call (FirstRefusal) and of what it leaves in a row (Outcome). Assumes nothing.
pub mod FirstRefusal
pub mod Outcome
