-- What only the contracts of the code cite. Assumes nothing.
pub mod Code
