-- The numbers of the sorts of parts. Assumes nothing.
pub mod Numbers
