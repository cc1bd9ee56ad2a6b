-- Document 01: rows, and the course and the points of each cable. Assumes nothing.
use Rattle.std.specs.Prelude.{ℕ, ◌+◌, ◌-◌, cond, not, List, [], ◌∷◌, length, get_or, take, drop, eqb}
use Rattle.lists.specs.Select.{one_if, cons_if}
use Rattle.order.specs.Graph.{StGraph, lower, upper}
use Rattle.geometry.specs.Spots.{Spot, same_spot, spot_at}
use Rattle.layout.specs.Columns.{Columns, source_has_four, analyser_has_four, bottom_line, top_line, columns}

-- A cable's course: up from its lower part's spot, or down to the lane below it; level in the lower lane to the cable's own column; up to
-- the upper lane; level to its upper part's column; and up, or down, to the part.
pub record Course : Type 0 where
  pub from : Spot
  pub low : ℕ
  pub column : ℕ
  pub high : ℕ
  pub to : Spot

-- the six places where a course may turn
unfoldable pub turns : Course → List Spot
turns c =
    c.from
    ∷ record { x = c.from.x; y = c.low }
    ∷ record { x = c.column; y = c.low }
    ∷ record { x = c.column; y = c.high }
    ∷ record { x = c.to.x; y = c.high }
    ∷ c.to
    ∷ []

-- a list of spots without those that equal the one behind them
unfoldable pub drop_repeats : List Spot → List Spot
drop_repeats [] = []
drop_repeats (p ∷ []) = p ∷ []
drop_repeats (p ∷ q ∷ r) = cons_if (not (same_spot p q)) p (drop_repeats (q ∷ r))

-- 'Its points are the spots of its lower-ranked part, of its corners in the sheet's sequence, and of its other part'
unfoldable pub points_of : Course → List Spot
points_of c = drop_repeats (turns c)

-- what stands between the first and the last
unfoldable pub inner : List Spot → List Spot
inner l = take (length l - 2) (drop 1 l)

unfoldable pub corners_of : Course → List Spot
corners_of c = inner (points_of c)

module _ (G : StGraph) where
  -- 'Let d be 1 if s has four cables and 0 otherwise'
  unfoldable pub bottom_rows : ℕ
  bottom_rows = one_if (source_has_four G)

  -- 'and e the same for t'
  unfoldable pub top_rows : ℕ
  top_rows = one_if (analyser_has_four G)

  -- 'Rank k stands in row d + k.'
  unfoldable pub row : ℕ → ℕ
  row k = bottom_rows + k

  -- where rank k stands
  unfoldable pub part_spot : Columns → ℕ → Spot
  part_spot c k = spot_at (get_or c.parts k 0) (row k)

  -- The course of the cable at line i. 'turns in row 0': the bottom connection; 'to row d + n': the top connection.
  unfoldable pub course : Columns → ℕ → Course
  course c i = record {
    from = part_spot c (lower G i);
    low = cond (eqb i (bottom_line G)) 0 (row (lower G i));
    column = get_or c.cables i 0;
    high = cond (eqb i (top_line G)) (row G.parts) (row (upper G i));
    to = part_spot c (upper G i);
  }

  -- where rank k stands and the course of the cable at line i, once all ranks stand
  unfoldable pub rank_spot : ℕ → Spot
  rank_spot k = part_spot (columns G G.parts) k

  unfoldable pub course_of : ℕ → Course
  course_of i = course (columns G G.parts) i
