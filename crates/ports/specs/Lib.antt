-- Where a part stands, as the code says it. Assumes nothing.
pub mod Placements
