-- Two tables with cells for each column: one in which a line is held against itself and against the parts, one in which lines are held
-- against each other. A cell has the row that it was written in and a number; what was written in an earlier row counts for nothing.
-- Assumes nothing.
use Rattle.std.specs.Prelude.{ℕ, ◌+◌, ◌*◌, ◌/◌, ◌%◌, ◌^◌, min, Bool, cond, not, ◌&&◌, ◌||◌, List, [], ◌∷◌, get_or, set, eqb}
use Rattle.sweep.specs.Visits.{Visit}

-- numbers below this one stand in a cell: of lines, and of parts
abbrev pub cell_numbers : ℕ
cell_numbers = 1024

-- a number written in row y
abbrev pub stamp : ℕ → ℕ → ℕ
stamp y i = (y + 1) * cell_numbers + i

abbrev pub number_in : ℕ → ℕ
number_in cell = cell % cell_numbers

-- the cell was written in row y
unfoldable pub in_row : ℕ → ℕ → Bool
in_row y cell = eqb (cell / cell_numbers) (y + 1)

-- a column's two cells
abbrev pub one_cell : ℕ → ℕ
one_cell x = 2 * x

abbrev pub other_cell : ℕ → ℕ
other_cell x = 2 * x + 1

-- behind the cells of 4,096 columns stands the lowest line found wrong, at first the count of lines
abbrev pub lowest_place : ℕ
lowest_place = 8192

-- a line is found wrong
unfoldable pub blame : List ℕ → ℕ → List ℕ
blame board i = set board lowest_place (min (get_or board lowest_place 0) i)

-- A line against itself and against the parts: a column's cells have the part that stands there, and the line that was last there

-- where two parts share a spot
abbrev pub shared : ℕ
shared = 1023

-- part p stands in column x of row y
unfoldable pub mark_part : ℕ → List ℕ → ℕ → ℕ → List ℕ
mark_part y board p x = set board (one_cell x) (cond (in_row y (get_or board (one_cell x) 0)) (stamp y shared) (stamp y p))

-- a cable's line, and its two parts
pub record Strand : Type 0 where
  pub line : ℕ
  pub one : ℕ
  pub other : ℕ

-- a part stands in column x of row y, and it is neither of the two
unfoldable pub foreign : ℕ → List ℕ → Strand → ℕ → Bool
foreign y board c x =
    let cell = get_or board (one_cell x) 0 in in_row y cell && not (eqb (number_in cell) c.one) && not (eqb (number_in cell) c.other)

-- the line was there before
unfoldable pub was_here : ℕ → List ℕ → Strand → ℕ → Bool
was_here y board c x = eqb (get_or board (other_cell x) 0) (stamp y c.line)

unfoldable pub visit_alone : ℕ → Strand → List ℕ → ℕ → List ℕ
visit_alone y c board x =
    let here = set board (other_cell x) (stamp y c.line) in cond (was_here y board c x || foreign y board c x) (blame here c.line) here

unfoldable pub visits_alone : ℕ → Strand → List ℕ → List Visit → List ℕ
visits_alone y c board [] = board
visits_alone y c board (v ∷ vs) = visits_alone y c (visit_alone y c board v.column) vs

-- Lines against each other: a column's cells have the first line that has the spot on a level run, and on an upright run, ends apart.
-- Behind them stands the set of the pairs that cross, 32 to a word.

abbrev pub crossing_place : ℕ → ℕ → ℕ
crossing_place u j = 8193 + 32 * u + j / 32

-- number b is in a set of 32
unfoldable pub has_bit : ℕ → ℕ → Bool
has_bit w b = eqb (w / 2 ^ b % 2) 1

-- lines u and j cross, u below j: the second time it is wrong
unfoldable pub cross : List ℕ → ℕ → ℕ → List ℕ
cross board u j =
    let w = get_or board (crossing_place u j) 0 in
    cond (has_bit w (j % 32)) (blame board u) (set board (crossing_place u j) (w + 2 ^ (j % 32)))

-- a line has a spot on a run of one kind: it is wrong with the first that has it on a run of that kind
unfoldable pub lay_over : ℕ → ℕ → ℕ → List ℕ → List ℕ
lay_over y line own board =
    let cell = get_or board own 0 in cond (in_row y cell) (blame board (number_in cell)) (set board own (stamp y line))

-- and it crosses the first that has it on a run of the other kind, unless that is the line itself, at its corner
unfoldable pub cross_over : ℕ → ℕ → ℕ → List ℕ → List ℕ
cross_over y line other board =
    let cell = get_or board other 0 in cond (in_row y cell && not (eqb (number_in cell) line)) (cross board (number_in cell) line) board

unfoldable pub pass_column : ℕ → ℕ → ℕ → ℕ → List ℕ → List ℕ
pass_column y line own other board = cross_over y line other (lay_over y line own board)

unfoldable pub visit_pair : ℕ → ℕ → List ℕ → Visit → List ℕ
visit_pair y line board v =
    let x = v.column in
    let levelled = cond v.level (pass_column y line (one_cell x) (other_cell x) board) board in
    cond v.upright (pass_column y line (other_cell x) (one_cell x) levelled) levelled

unfoldable pub visits_pair : ℕ → ℕ → List ℕ → List Visit → List ℕ
visits_pair y line board [] = board
visits_pair y line board (v ∷ vs) = visits_pair y line (visit_pair y line board v) vs
