-- The steps of the code for a chosen cable: its loops (Steps), and what each call makes of the answers that it is given (Choice). Assumes
-- nothing.
pub mod Steps
pub mod Choice
