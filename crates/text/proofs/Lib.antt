-- What follows from the definitions of lines of text. Assumes nothing.
pub mod LineLaws
pub mod Decimal
pub mod ByteLaws
