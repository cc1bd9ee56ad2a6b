-- Request 2026-09: 'All sheets we write are accepted, in every spacing'. What is read off words fits their fields (Fitting), the words of a
-- drawing that fits follow the layout (DrawingWords), so that our sheets are accepted (Own), the triangle's among them (Worked), and pass
-- (Passing). Assumes nothing.
pub mod Fitting
pub mod DrawingWords
pub mod Own
pub mod Worked
pub mod Passing
