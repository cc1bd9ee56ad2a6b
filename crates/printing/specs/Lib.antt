-- What document 01's sheet program prints. Assumes nothing.
pub mod Printed
