-- What the code's arrays of an order and of cables in ranks stand for. Assumes nothing.
pub mod Ranking
pub mod Spans
pub mod Arrays
