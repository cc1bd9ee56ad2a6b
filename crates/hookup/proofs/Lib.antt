-- Document 01's table, and the demands proved of the definitions: the drawing of a station has the meetings and sizes of its layout
-- (Drawn), its rows are the order (PartRows), so that demands 2 and 3 hold of its words, which show its crossings (Demand3); the checks of
-- a call (CallChecks), what they were with 7 among them (Repeats) and with document 01's 10 (CutParts) and are with another limit of parts
-- (PartLimit), and answers without a spacing (OnGrid), and on chains and rings (Chains); the drawings of lists with one canonical form
-- (SameStations); outputs that suffice for every sheet (Ample); what makes an answer right (Answers).
pub mod Drawn
pub mod PartRows
pub mod Demand3
pub mod CallChecks
pub mod Repeats
pub mod PartLimit
pub mod CutParts
pub mod OnGrid
pub mod Chains
pub mod SameStations
pub mod Ample
pub mod Computing
pub mod Table
pub mod Triangle
pub mod Answers
