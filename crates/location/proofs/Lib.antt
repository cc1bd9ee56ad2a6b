-- What lies at a spot: no third cable, and one answer (Sharing), on lines that are the same in every right direction (SameLine). What each
-- call answers, step by step (Answers), and that it is what is promised: of marks (Locating), of a cable's own words and its box (Selecting);
-- words behind the last corner change nothing (Unread). Worked examples (Computing, Table). Assumes nothing.
pub mod Sharing
pub mod SameLine
pub mod Answers
pub mod Locating
pub mod Selecting
pub mod Unread
pub mod Computing
pub mod Table
