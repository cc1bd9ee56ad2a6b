-- What is promised of the lengths on a sheet (requests 2026-01 and 2026-06): of the grid's drawing of n parts and m cables, of the drawing
-- on the sheet, and of the words behind its cables. Assumes nothing.
use Rattle.std.specs.Prelude.{ℕ, ◌+◌, ◌<◌, ◌≤◌, ◌≡◌, List, map, length, get_or, take}
use Rattle.lists.specs.Select.{sum}
use Rattle.words.specs.Words.{kind_of, second_of, line_of, total_of, cable_length, total_length}
use Rattle.drawing.specs.declared.spacing.Spacing.{Spacing}
use Rattle.drawing.specs.Drawing.{Drawing, points_at}
use Rattle.drawing.specs.Lengths.{line_length, grid_length, most_length}

pub record Measured (spacing : Spacing) (n m : ℕ) (grid d : Drawing) (words : List ℕ) : Type 0 where
  -- 'm words of kind 8 .. then one of kind 10'
  pub count : length words ≡ m + 1
  pub kinds : (i : ℕ) → i < m → kind_of (get_or words i 0) ≡ cable_length
  pub total_kind : kind_of (get_or words m 0) ≡ total_length
  -- 'the line in bits 27 to 12 and the grid steps along that cable's line in bits 11 to 0'
  pub lines : (i : ℕ) → i < m → line_of (get_or words i 0) ≡ i
  pub lengths : (i : ℕ) → i < m → second_of (get_or words i 0) ≡ line_length (points_at grid i)
  -- 2026-06: 'Run lengths .. still count grid steps', along the line that the sheet shows
  pub on_sheet : (i : ℕ) → i < m → second_of (get_or words i 0) ≡ grid_length spacing (points_at d i)
  -- 'The total is the sum of the m records'
  pub total : total_of (get_or words m 0) ≡ sum (map second_of (take m words))
  -- a bound by the count of parts alone, well within 12 bits
  pub most : (i : ℕ) → i < m → line_length (points_at grid i) ≤ most_length n
