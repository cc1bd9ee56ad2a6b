-- Laws of the writer's code: a course's corners as words (CornerWords), a drawing's words section by section (Sections), the quote behind
-- them (Quotes), and what the values of a layout say of its drawing as it is spaced and numbered (Layouts). Assumes nothing.
pub mod CornerWords
pub mod Sections
pub mod Quotes
pub mod Layouts
pub mod Totals
