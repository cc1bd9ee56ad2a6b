-- Laws of a layout in code: one more rank (Opening, Standing), the courses (Lanes), and what all of it says of
-- its drawing (Layouts). Assumes nothing.
pub mod Opening
pub mod Standing
pub mod Lanes
pub mod Layouts
