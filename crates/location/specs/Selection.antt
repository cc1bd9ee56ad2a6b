-- Request 2026-10: 'For a chosen cable the screen needs that cable's own words of the sheet, head and corners, without a copy', and 'the box
-- around a cable'. Assumes nothing.
use Rattle.std.specs.Prelude.{ℕ, ◌+◌, ◌*◌, ◌≡◌, List, get_or, take, drop}
use Rattle.std.specs.Borrow.{Bor}
use Rattle.words.specs.Words.{second_of}
use Rattle.station.specs.Station.{Station}
use Rattle.drawing.specs.Drawing.{points_at}
use Rattle.validation.specs.Layout.{cable_place}
use Rattle.validation.specs.Directions.{shown}
use Rattle.bounds.specs.declared.Bounds.{Bounds}
use Rattle.bounds.specs.Boxes.{box_of}

-- 'that cable's own words of the sheet, head and corners': of a sheet of n parts, where they start and how many they are
abbrev pub own_start : ℕ → List ℕ → ℕ → ℕ
own_start n sheet line = cable_place n sheet line

abbrev pub own_count : ℕ → List ℕ → ℕ → ℕ
own_count n sheet line = 1 + second_of (get_or sheet (own_start n sheet line) 0)

-- 'without a copy': the part has these words of the row, and lies in the row's own memory, so many words of four bytes from its start
pub record PartOf (row part : Bor (List ℕ)) (start count : ℕ) : Type 0 where
  pub words : part.now ≡ take count (drop start row.now)
  pub block : part.ref_ptr.0 ≡ row.ref_ptr.0
  pub offset : part.ref_ptr.1 ≡ row.ref_ptr.1 + start * 4

-- the box that 'ends as the smallest that holds all points of that cable': the spots of its parts and of its corners
unfoldable pub cable_box : Station → List ℕ → ℕ → Bounds
cable_box st sheet line = box_of (points_at (shown st sheet) line)
