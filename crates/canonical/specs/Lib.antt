-- Request 2026-13: a list's canonical form, what two lists with the same one have in common, and what the call answers. Assumes nothing.
pub mod Canonical
pub mod Multiplicity
pub mod Outcome
