-- What document 01 says of paths, checks 9 and 10, the order of parts and the cables in ranks, in its order. Assumes nothing.
pub mod Reach
pub mod Order
pub mod StOrder
pub mod Bipolar
pub mod Graph
pub mod Orientation
pub mod Checks
-- What only laws and the contracts of code cite
pub mod RankedGraphs
pub mod CutParts
