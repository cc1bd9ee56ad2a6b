-- What the stages' values stand for, in a row (Stages), and what a stage refuses (Refusals). Assumes nothing.
pub mod Stages
pub mod Refusals
