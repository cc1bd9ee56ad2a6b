-- Laws of the code that finds the directions of cables, from the facts that its branches and loops leave: the look at a cable's end runs
-- (Looking) and along its corners (Alternating), the direction of each cable (Choosing). Assumes nothing.
pub mod Looking
pub mod Alternating
pub mod Choosing
