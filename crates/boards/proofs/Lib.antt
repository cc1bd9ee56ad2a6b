-- Laws of the code of the tables, from the facts that its branches leave: their steps, case by case (Steps). Assumes nothing.
pub mod Steps
