-- Request 2026-07: the list in a lent row, trying a cable and laying it, and what any run of these leaves. Assumes nothing.
pub mod Rows
pub mod Checks
pub mod Operations
pub mod Runs
