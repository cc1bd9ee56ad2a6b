-- Request 2026-09: sheets held against their lists. The layout of the words (Layout), the directions of the cables (Directions), a cable by
-- itself (Alone), two cables by how they pass each spot (Ways, Judging), the lines that break the rules (Rules), and the answer (Outcome);
-- and how the code tells which direction is right (Facing). Assumes nothing.
pub mod Layout
pub mod Directions
pub mod Alone
pub mod Ways
pub mod Judging
pub mod Rules
pub mod Outcome
-- What only laws and the contracts of code cite
pub mod Facing
