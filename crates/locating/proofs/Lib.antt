-- Laws of the code that answers marks, from the facts that its branches and loops leave: whether a line has a spot (Passing), what is read
-- of a cable off an accepted sheet (Reading), what is named at a spot (Naming), and the answers of a call (Answering). Assumes nothing.
pub mod Passing
pub mod Reading
pub mod Naming
pub mod Answering
