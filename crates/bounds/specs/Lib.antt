-- Request 2026-10: the box around points. Assumes nothing.
pub mod Boxes
