-- What only the contracts of the editor's code cite. Assumes nothing.
pub mod Code
