-- What the code finds in the tables, in the terms of their definitions. Assumes nothing.
use Rattle.std.specs.Prelude.{ℕ, Bool, not, ◌&&◌, ◌||◌, eqb}
use Rattle.sweep.specs.Boards.{stamp, number_in, in_row}
use Rattle.sweep.specs.Boards as tables

-- the cells of a column show that the line was there, or a part that it does not join
abbrev pub wrong_cells : ℕ → tables.Strand → ℕ → ℕ → Bool
wrong_cells y c part-cell line-cell =
    eqb line-cell (stamp y c.line)
    || in_row y part-cell && not (eqb (number_in part-cell) c.one) && not (eqb (number_in part-cell) c.other)
