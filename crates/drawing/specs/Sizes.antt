-- What demand 3 says of sizes, and request 2026-06 of a sheet's head: of the grid's drawing of n parts and m cables, of the drawing on the
-- sheet, and of its words. Assumes nothing.
use Rattle.std.specs.Prelude.{ℕ, ◌+◌, ◌*◌, ◌-◌, ◌<◌, ◌≤◌, ◌≡◌, ◌⊎◌, List, length, ltb, Option}
use Rattle.lists.specs.Select.{count}
use Rattle.drawing.specs.declared.spacing.Spacing.{Spacing}
use Rattle.geometry.specs.Lines.{point}
use Rattle.drawing.specs.Drawing.{Route, Drawing, spot_of, route_at, points_at}
use Rattle.drawing.specs.Counts.{is_corner, quote_count}

pub record Sizes (spacing : Spacing) (n m : ℕ) (grid d : Drawing) (sheet : List ℕ) : Type 0 where
  -- 'Width and height are the greatest x and y.' 2026-06: 'The head carries the greatest x plus the margin, and the greatest y plus the
  -- margin.'
  pub x_most : (i k : ℕ) → i < m → k < length (points_at d i) → (point (points_at d i) k).x + spacing.margin ≤ d.width
  pub x_reached : (i : ℕ) × (k : ℕ) × (i < m) × (k < length (points_at d i)) × ((point (points_at d i) k).x + spacing.margin ≡ d.width)
  pub y_most : (i k : ℕ) → i < m → k < length (points_at d i) → (point (points_at d i) k).y + spacing.margin ≤ d.height
  pub y_reached : (i : ℕ) × (k : ℕ) × (i < m) × (k < length (points_at d i)) × ((point (points_at d i) k).y + spacing.margin ≡ d.height)
  pub parts_within : (p : ℕ) → p < n → ((spot_of d p).x + spacing.margin ≤ d.width) × ((spot_of d p).y + spacing.margin ≤ d.height)
  -- 'the width and height bounds are the grid's': the head is twice the margin, and the pitch times the grid's width or height
  pub head_width : d.width ≡ 2 * spacing.margin + spacing.column_pitch * grid.width
  pub head_height : d.height ≡ 2 * spacing.margin + spacing.row_pitch * grid.height
  -- 'the sheet is exactly m - n + 1 wide, at most n + 1 high'
  pub width : grid.width + n ≡ m + 1
  pub height : grid.height ≤ n + 1
  -- 'has at most 2m - 2n + 4 corners'
  pub corners : count is_corner sheet + (n + n) ≤ m + m + 4

-- 'The sheet has m - n + 1 as width, n - 1 + d + e as height, 2m - 2n + 2 + d + e corners and 3m - n + 3 + d + e words', of the grid and
-- with the words that 2026-01 and 2026-05 add: m + 1 lengths, and the bill. The extra rows below and above are document 01's d and e.
pub record Exactly (discount : Option ℕ) (n m below above : ℕ) (grid : Drawing) (sheet : List ℕ) : Type 0 where
  pub width : grid.width + n ≡ m + 1
  pub height : grid.height ≡ n - 1 + below + above
  pub corners : count is_corner sheet + 2 * n ≡ 2 * m + 2 + below + above
  pub words : length sheet + n ≡ 3 * m + 3 + below + above + (m + 1) + quote_count discount m

-- 'at most two cables have more than two' corners, of m cables: those at the lines of the bottom and of the top connection (source 000's
-- terms), and these have three
pub record ManyBends (m bottom top : ℕ) (d : Drawing) : Type 0 where
  pub few : count (λ (r : Route). ltb 2 (length r.corners)) d.routes ≤ 2
  pub which : (i : ℕ) → i < m → 2 < length (route_at d i).corners → (i ≡ bottom) ⊎ (i ≡ top)
  pub most : (i : ℕ) → i < m → length (route_at d i).corners ≤ 3

-- 2026-04: 'no cable has more than two corners', of m cables
pub record Bends (m : ℕ) (d : Drawing) : Type 0 where
  pub most : (i : ℕ) → i < m → length (route_at d i).corners ≤ 2
