-- Laws of the sweep. The visits of a line in a row (Visits): none in a row that it does not reach (Reach), some twice where it touches
-- itself (Repeats), and how they pass a spot (VisitWays). The table of lines by themselves, from its start (Blank) over the visits of a line
-- (AloneVisits) to the end (AloneTable), and what is asked of a cable by itself (AloneLines). The table of pairs as a list of passes
-- (Passes), from a bit (Bits) and a pass (PairSteps) to the end (PairTable), what is asked of two cables (PairLines), and the lowest of them
-- (Rising). The drawing that is swept (FacedDrawing), and that the sweep of a sheet says what check 20 says (SweptSheet). Assumes nothing.
pub mod Visits
pub mod Reach
pub mod Repeats
pub mod VisitWays
pub mod Blank
pub mod AloneVisits
pub mod AloneTable
pub mod AloneLines
pub mod Passes
pub mod Bits
pub mod PairSteps
pub mod PairTable
pub mod PairLines
pub mod Rising
pub mod FacedDrawing
pub mod SweptSheet
