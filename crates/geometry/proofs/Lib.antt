-- Laws of spots and their test (Spots), of the test that lines cross (Crossing), and of meetings under other numbers of the parts
-- (Renaming). Assumes nothing.
pub mod Spots
pub mod Crossing
pub mod Renaming
