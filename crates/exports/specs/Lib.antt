-- What the exported calls give. Assumes nothing.
pub mod Told
pub mod Call
pub mod Editing
pub mod Counts
pub mod CanonicalForm
pub mod SignalLevels
pub mod SheetCheck
pub mod Pointing
