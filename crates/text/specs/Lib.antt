-- Bytes as words, and lines of text. Assumes nothing.
pub mod Bytes
pub mod Ascii
pub mod Lines
