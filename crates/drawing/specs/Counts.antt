-- Corners, counted in a drawing and told among words, and the words of a bill counted. Assumes nothing.
use Rattle.std.specs.Prelude.{ℕ, ◌+◌, Bool, List, map, length, eqb, Option, Some, None}
use Rattle.lists.specs.Select.{sum}
use Rattle.words.specs.Words.{kind_of, corner}
use Rattle.drawing.specs.Drawing.{Route}

-- the corners of all routes, counted
abbrev pub corner_count : List Route → ℕ
corner_count rs = sum (map (λ r. length r.corners) rs)

-- 'Corners are counted as kind 7 words'
abbrev pub is_corner : ℕ → Bool
is_corner w = eqb (kind_of w) corner

-- 2026-05: 'm + 1 words' of prices, where a discount is given
abbrev pub quote_count : Option ℕ → ℕ → ℕ
quote_count None m = 0
quote_count (Some discount) m = m + 1
