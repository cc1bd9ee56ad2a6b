-- Small drawings: document 01's triangle as words (2026-01, and with a quote 2026-05) and read back, and lines that cross. Assumes nothing.
use Rattle.std.specs.Prelude.{Some, None}
use Prim.Native.Nat.{ℕ}
use mathlib.Core.Path.{◌≡◌, refl}
use mathlib.Core.List.{List, [], ◌∷◌, ◌++◌}
use Rattle.geometry.specs.Spots.{Spot, spot_at}
use Rattle.drawing.specs.Drawing.{Route, Drawing, crossings}
use Rattle.drawing.specs.Spacing.{on_grid}
use Rattle.drawing.specs.Sheet.{sheet_words, quoted_words}
use Rattle.drawing.specs.Reading.{Endpoints, drawing_in, lengths_in, quote_in}
use Rattle.drawing.proofs.Computing.{drawing_computing}

abbrev route : ℕ → ℕ → List Spot → Route
route a b corners = record { first = a; last = b; corners = corners }

abbrev ends : ℕ → ℕ → Endpoints
ends a b = record { first = a; last = b }

abbrev triangle : Drawing
triangle = record {
  width = 1;
  height = 2;
  parts = spot_at 0 0 ∷ spot_at 0 1 ∷ spot_at 0 2 ∷ [];
  routes = route 0 1 [] ∷ route 1 2 [] ∷ route 0 2 (spot_at 1 0 ∷ spot_at 1 2 ∷ []) ∷ [];
}

-- 'The triangle ends `80000001 80001001 80002004 a0000006`'
abbrev pub thirteen : List ℕ
thirteen =
    0x40001002
    ∷ 0x50000000
    ∷ 0x50000001
    ∷ 0x50000002
    ∷ 0x60000000
    ∷ 0x60001000
    ∷ 0x60002002
    ∷ 0x70001000
    ∷ 0x70001002
    ∷ 0x80000001
    ∷ 0x80001001
    ∷ 0x80002004
    ∷ 0xa0000006
    ∷ []

-- a level line from part 0 to part 1, and one that goes up over it
abbrev over : Route → Drawing
over r = record { width = 2; height = 2; parts = spot_at 0 1 ∷ spot_at 2 1 ∷ spot_at 1 0 ∷ spot_at 1 2 ∷ []; routes = route 0 1 [] ∷ r ∷ [] }

record Worked : Type 0 where
  triangle_words : sheet_words on_grid triangle ≡ thirteen
  triangle_read : drawing_in 3 (ends 0 1 ∷ ends 1 2 ∷ ends 0 2 ∷ []) thirteen ≡ triangle
  triangle_lengths : lengths_in 3 3 thirteen ≡ 0x80000001 ∷ 0x80001001 ∷ 0x80002004 ∷ 0xa0000006 ∷ []
  -- 2026-05: 'after the run lengths', with a discount of 5 in 10,000
  triangle_quoted : quoted_words on_grid (Some 5) triangle ≡ thirteen ++ 970 ∷ 970 ∷ 1039 ∷ 2979 ∷ []
  triangle_plain : quoted_words on_grid None triangle ≡ thirteen
  quote_read : quote_in 3 3 (quoted_words on_grid (Some 5) triangle) ≡ 970 ∷ 970 ∷ 1039 ∷ 2979 ∷ []
  -- 2026-02: 'all pairs of cables whose lines cross, those that share a part too'
  crossed : crossings (over (route 2 3 [])) ≡ 1
  -- this one ends at part 0, from above
  joined : crossings (over (route 2 0 (spot_at 1 2 ∷ spot_at 0 2 ∷ []))) ≡ 1
  -- and this one from below: the part's spot, which both lines have, is no crossing
  meeting : crossings (over (route 2 0 (spot_at 0 0 ∷ []))) ≡ 0

worked : Worked
unfolding drawing_computing
worked = record {
  triangle_words = refl;
  triangle_read = refl;
  triangle_lengths = refl;
  triangle_quoted = refl;
  triangle_plain = refl;
  quote_read = refl;
  crossed = refl;
  joined = refl;
  meeting = refl;
}
