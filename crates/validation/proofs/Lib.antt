-- Laws of sheets held against their lists: the layout and what is read off a sheet that follows it (Following); a cable by itself (Alone),
-- two by how they pass each spot (Ways, Judging) and either way round (Pairs), a cable from either end (Directions) and from the end that
-- it faces (Facing); what is accepted, and the answer (Accepting), the numbers of refusals (Numbers), and that nothing behind the last
-- corner counts (Unread). Worked sheets (Table) and lines (WorkedLines) compute with Computing. Assumes nothing.
pub mod Following
pub mod Alone
pub mod Ways
pub mod Judging
pub mod Pairs
pub mod Directions
pub mod Facing
pub mod Accepting
pub mod Numbers
pub mod Unread
pub mod Computing
pub mod Table
pub mod WorkedLines
