-- Laws of the code of the sweep, from the facts that its branches and loops leave: the visits of a line (LineSteps), the parts, lines and
-- rows of a sheet (RowSteps), the rows that each line reaches (Spanning), and what the two numbers that are found say (Judges). Assumes
-- nothing.
pub mod LineSteps
pub mod RowSteps
pub mod Spanning
pub mod Judges
