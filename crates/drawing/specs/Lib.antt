-- Document 01 and requests 2026-01, 2026-02, 2026-05, 2026-06 and 2026-13: what a sheet is: a drawing, the lengths of its lines, its
-- spacing, its words, and the drawing that words show; drawings that differ in the numbers of lines alone. Assumes nothing.
pub mod Drawing
pub mod Lengths
pub mod Spacing
pub mod Sheet
pub mod Reading
pub mod Counts
pub mod Sizes
pub mod Measured
pub mod Alike
