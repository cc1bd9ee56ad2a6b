-- A layout, as the code holds it. Assumes nothing.
pub mod Placements
pub mod Courses
pub mod Laid
pub mod Arrays
