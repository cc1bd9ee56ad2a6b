-- The lines at one rank, as the code holds them. Assumes nothing.
pub mod Incidents
