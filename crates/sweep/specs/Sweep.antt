-- The sweep of a drawing: its rows from the lowest up, in each the parts, then the lines by number. Assumes nothing.
use Rattle.std.specs.Prelude.{ℕ, zero, suc, ◌+◌, cond, List, [], ◌∷◌, length, get_or, set, replicate, eqb}
use Rattle.geometry.specs.Spots.{Spot}
use Rattle.drawing.specs.Drawing.{Route, Drawing, spot_of}
use Rattle.sweep.specs.Visits.{Visit, line_visits}
use Rattle.sweep.specs.Boards.{Strand, lowest_place, mark_part, visits_alone, visits_pair}

-- the visits of a cable's line in row y
unfoldable pub route_visits : Drawing → ℕ → Route → List Visit
route_visits d y r = line_visits y (spot_of d r.first) r.corners (spot_of d r.last)

abbrev pub strand_of : ℕ → Route → Strand
strand_of line r = record { line = line; one = r.first; other = r.last }

-- the parts of row y, from part p on
unfoldable pub parts_marked : ℕ → List ℕ → ℕ → List Spot → List ℕ
parts_marked y board p [] = board
parts_marked y board p (s ∷ ss) = parts_marked y (cond (eqb s.y y) (mark_part y board p s.x) board) (p + 1) ss

-- the lines of row y, from a line on
unfoldable pub lines_alone : Drawing → ℕ → List ℕ → ℕ → List Route → List ℕ
lines_alone d y board line [] = board
lines_alone d y board line (r ∷ rs) = lines_alone d y (visits_alone y (strand_of line r) board (route_visits d y r)) (line + 1) rs

unfoldable pub lines_pair : Drawing → ℕ → List ℕ → ℕ → List Route → List ℕ
lines_pair d y board line [] = board
lines_pair d y board line (r ∷ rs) = lines_pair d y (visits_pair y line board (route_visits d y r)) (line + 1) rs

-- k rows from row y on
unfoldable pub rows_alone : Drawing → List ℕ → ℕ → ℕ → List ℕ
rows_alone d board y zero = board
rows_alone d board y (suc k) = rows_alone d (lines_alone d y (parts_marked y board 0 d.parts) 0 d.routes) (y + 1) k

unfoldable pub rows_pair : Drawing → List ℕ → ℕ → ℕ → List ℕ
rows_pair d board y zero = board
rows_pair d board y (suc k) = rows_pair d (lines_pair d y board 0 d.routes) (y + 1) k

-- a table in which nothing has been written: zeros, and no line found wrong
unfoldable pub blank : ℕ → ℕ → List ℕ
blank places lines = set (replicate places 0) lowest_place lines

-- the lengths of the two tables
abbrev pub alone_places : ℕ
alone_places = 8193

abbrev pub pair_places : ℕ
pair_places = 40961

-- the lowest line that touches itself or a part that it does not join, or the count of lines
unfoldable pub lowest_alone : Drawing → ℕ
lowest_alone d = get_or (rows_alone d (blank alone_places (length d.routes)) 0 (d.height + 1)) lowest_place 0

-- the lowest line of a pair that meets wrongly, or the count of lines
unfoldable pub lowest_pair : Drawing → ℕ
lowest_pair d = get_or (rows_pair d (blank pair_places (length d.routes)) 0 (d.height + 1)) lowest_place 0
