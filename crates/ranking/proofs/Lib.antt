-- Laws of the arrays that hold an order and cables in ranks, and of the one call for checks 1 to 10. Assumes nothing.
pub mod Rankings
pub mod LineRanks
pub mod GraphArrays
pub mod CheckedRankings
