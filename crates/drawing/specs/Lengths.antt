-- Request 2026-01: how long the cables' lines are; 2026-06: and what that is on a sheet that is spaced. Assumes nothing.
use Rattle.std.specs.Prelude.{ℕ, ◌+◌, ◌*◌, ◌-◌, ◌/◌, min, max, List, [], ◌∷◌, length}
use Rattle.lists.specs.Select.{tabulate}
use Rattle.drawing.specs.declared.spacing.Spacing.{Spacing}
use Rattle.geometry.specs.Spots.{Spot}
use Rattle.drawing.specs.Drawing.{Drawing, points_at}

-- the grid steps between two columns, or between two rows
unfoldable pub steps : ℕ → ℕ → ℕ
steps a b = max a b - min a b

-- the distance of two points: steps in x and steps in y (their rectilinear distance)
abbrev pub distance : Spot → Spot → ℕ
distance p q = steps p.x q.x + steps p.y q.y

-- 'the grid steps along that cable's line', which are 'the summed distance between neighbouring points'
unfoldable pub line_length : List Spot → ℕ
line_length [] = 0
line_length (p ∷ []) = 0
line_length (p ∷ q ∷ r) = distance p q + line_length (q ∷ r)

-- 2026-06: 'Run lengths .. still count grid steps', on a spaced sheet: steps in x divided by the column pitch, and steps in y divided by
-- the row pitch
abbrev pub grid_distance : Spacing → Spot → Spot → ℕ
grid_distance s p q = steps p.x q.x / s.column_pitch + steps p.y q.y / s.row_pitch

unfoldable pub grid_length : Spacing → List Spot → ℕ
grid_length s [] = 0
grid_length s (p ∷ []) = 0
grid_length s (p ∷ q ∷ r) = grid_distance s p q + grid_length s (q ∷ r)

-- 'run lengths': of each cable's line, by line
unfoldable pub cable_lengths : Drawing → List ℕ
cable_lengths d = tabulate (length d.routes) (λ i. line_length (points_at d i))

-- A line's length is at most this with n parts: twice the width, once the height, and a step at either end.
abbrev pub most_length : ℕ → ℕ
most_length n = 3 * n + 5
