-- Laws of the adjacency table, of sets as flags, of walks and of what they leave apart. Assumes nothing.
pub mod Neighbours
pub mod AdjacencyTable
pub mod Testing
pub mod Flags
pub mod Walks
pub mod Walking
pub mod Connected
pub mod Separation
