-- Document 01 as a whole, with requests 2026-01, 2026-02, 2026-04 to 2026-06, 2026-11, 2026-12 and 2026-14: what a caller gives, the
-- checks, the drawing of a station, the answer, and the demands. Assumes nothing.
pub mod Options
pub mod Drawing
pub mod Checks
pub mod Outcome
pub mod Reading
pub mod Demand
pub mod Answer
-- What only laws cite
pub mod Repeats
pub mod PartLimit
pub mod CutParts
