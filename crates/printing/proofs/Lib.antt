-- What follows of the printed text: its cases and lengths, that the room is ample, and document 01's example. Assumes nothing.
pub mod AnswerLaws
pub mod FileLaws
pub mod Ample
pub mod Worked
