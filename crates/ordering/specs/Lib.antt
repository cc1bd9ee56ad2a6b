-- What the order in code keeps and tests. Assumes nothing.
pub mod Numbers
pub mod Choices
