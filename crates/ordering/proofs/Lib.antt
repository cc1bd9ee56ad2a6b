-- Laws of the numbers of parts (Numbers), of the witnesses (Witnesses), of the tests of a candidate (Choices), of the parts by rank (PartsByRank) and of the ranks by part
-- (Filling). Assumes nothing.
pub mod Numbers
pub mod Witnesses
pub mod Choices
pub mod PartsByRank
pub mod Filling
