-- Request 2026-06: a drawing spaced for print, and which spacings and drawings are sent back. Assumes nothing.
use Rattle.std.specs.Prelude.{ℕ, ◌+◌, ◌*◌, max, Bool, cond, ◌||◌, List, [], ◌∷◌, ◌++◌, map, eqb, ltb, Option, Some, None}
use Rattle.lists.specs.Select.{any, filter}
use Rattle.words.specs.Limits.{most_field}
use Rattle.drawing.specs.declared.spacing.Spacing.{Spacing}
use Rattle.geometry.specs.Spots.{Spot, spot_at}
use Rattle.drawing.specs.Drawing.{Route, Drawing}

-- 'Every x becomes margin + x × column pitch'
unfoldable pub column_at : Spacing → ℕ → ℕ
column_at s x = s.margin + x * s.column_pitch

-- 'y likewise with the row pitch'
unfoldable pub row_at : Spacing → ℕ → ℕ
row_at s y = s.margin + y * s.row_pitch

unfoldable pub spaced_spot : Spacing → Spot → Spot
spaced_spot s p = spot_at (column_at s p.x) (row_at s p.y)

unfoldable pub spaced_route : Spacing → Route → Route
spaced_route s r = record { first = r.first; last = r.last; corners = map (spaced_spot s) r.corners }

-- The grid's drawing under these two maps. 'The head carries the greatest x plus the margin, and the greatest y plus the margin.'
unfoldable pub spaced : Spacing → Drawing → Drawing
spaced s d = record {
  width = column_at s d.width + s.margin;
  height = row_at s d.height + s.margin;
  parts = map (spaced_spot s) d.parts;
  routes = map (spaced_route s) d.routes;
}

-- a spacing by its three numbers
abbrev pub spacing_of : ℕ → ℕ → ℕ → Spacing
spacing_of column row margin = record { column_pitch = column; row_pitch = row; margin = margin }

-- 'pitches 1 and margin 0', the grid's own
abbrev pub on_grid : Spacing
on_grid = spacing_of 1 1 0

-- Spacings that are sent back

abbrev pub most_pitch : ℕ
most_pitch = 64

abbrev pub most_margin : ℕ
most_margin = 255

-- 'a pitch of 0 or above 64'
abbrev pub bad_pitch : ℕ → Bool
bad_pitch pitch = eqb pitch 0 || ltb most_pitch pitch

-- 13: 'a pitch of 0 or above 64, or a margin above 255 .., place 0 for column pitch, 1 for row pitch, 2 for margin, first fault given'
unfoldable pub check13 : Spacing → Option ℕ
check13 s =
    cond (bad_pitch s.column_pitch) (Some 0) (cond (bad_pitch s.row_pitch) (Some 1) (cond (ltb most_margin s.margin) (Some 2) None))

-- Drawings that are sent back

-- the corners of all cables
unfoldable pub corner_spots : List Route → List Spot
corner_spots [] = []
corner_spots (r ∷ rs) = r.corners ++ corner_spots rs

unfoldable pub coordinates : List Spot → List ℕ
coordinates [] = []
coordinates (p ∷ ps) = p.x ∷ p.y ∷ coordinates ps

-- every 'coordinate or head field' of a drawing
unfoldable pub numbers_of : Drawing → List ℕ
numbers_of d = d.width ∷ d.height ∷ coordinates (d.parts ++ corner_spots d.routes)

unfoldable pub largest : List ℕ → ℕ
largest [] = 0
largest (x ∷ xs) = max x (largest xs)

-- 'above 4,095'
abbrev pub too_large : ℕ → Bool
too_large k = ltb most_field k

-- 14: 'a coordinate or head field above 4,095 .., its place the largest such number'
unfoldable pub check14 : Drawing → Option ℕ
check14 d = cond (any too_large (numbers_of d)) (Some (largest (filter too_large (numbers_of d)))) None
