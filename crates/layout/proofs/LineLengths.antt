-- The length of a cable's line by the numbers of its course, and how long a line is at most (request 2026-01). Assumes nothing.
use Prim.Native.Nat.{ℕ, ◌+◌, ◌-◌, ◌<◌, ◌≤◌}
use native.Mathlib.Omega.{arith}
use mathlib.Core.Path.{◌≡◌, refl, sym, ap, ◌∙◌}
use mathlib.Core.Bool.{Bool, true, false, cond, not}
use mathlib.Core.List.{List, [], ◌∷◌}
use lib.Dec.{eqb}
use borrow.Author.Tests.{eqb-true}
use Rattle.lists.specs.Select.{cons_if}
use Rattle.order.specs.Graph.{StGraph, size, lower, upper}
use Rattle.order.specs.RankedGraphs.{Ranked}
use Rattle.order.proofs.Graphs.{lower_inside, cables_le}
use Rattle.geometry.specs.Spots.{Spot, same_spot}
use Rattle.drawing.specs.Lengths.{steps, distance, line_length, most_length}
use Rattle.geometry.proofs.Spots.{same_spot_e}
use Rattle.drawing.proofs.Lengths.{steps_none, steps_back, steps_up, steps_most, length_next, length_one}
use Rattle.layout.specs.Columns.{bottom_line, top_line, columns}
use Rattle.layout.specs.Points.{Course, turns, drop_repeats, points_of, row, part_spot, course, rank_spot, course_of}
use Rattle.layout.proofs.Turns.{repeats_first}
use Rattle.layout.proofs.EndLines.{bottom_ends, top_ends}
use Rattle.layout.proofs.ExtraRows.{bottom_rows_le, top_rows_le}
use Rattle.layout.proofs.Sizes.{cable_column_below, rising, high_below, spots_within, columns_count}

-- Points that repeat the one before them add nothing.

no_distance : (p q : Spot) → p ≡ q → distance p q ≡ 0
no_distance p q e =
    ap (λ (s : Spot). distance p s) (sym e) ∙ omega (arith, steps_none p.x, steps_none p.y)

kept_length : (l : List Spot) → line_length (drop_repeats l) ≡ line_length l
unfolding drop_repeats
kept_length [] = refl
kept_length (p ∷ []) = refl
kept_length (p ∷ q ∷ r) = go (same_spot p q) refl (kept_length (q ∷ r))
  where
    go :
        (b : Bool) → same_spot p q ≡ b → line_length (drop_repeats (q ∷ r)) ≡ line_length (q ∷ r)
        → line_length (cons_if (not b) p (drop_repeats (q ∷ r))) ≡ line_length (p ∷ q ∷ r)
    go true e same = omega (arith, same, length_next p q r, no_distance p q (same_spot_e p q e))
    go false e same =
        let f = repeats_first q r in
        omega (
          arith,
          ap (λ (l : List Spot). line_length (p ∷ l)) f.1,
          ap line_length f.1,
          length_next p q f.0,
          length_next p q r,
          same,
        )

-- 'the summed distance between neighbouring points', of the points that are kept
course_length :
    (c : Course)
    → line_length (points_of c)
    ≡ steps c.from.y c.low + steps c.from.x c.column + steps c.low c.high + steps c.column c.to.x + steps c.high c.to.y
unfolding points_of turns
course_length c =
    let p₁ : Spot = record { x = c.from.x; y = c.low } in
    let p₂ : Spot = record { x = c.column; y = c.low } in
    let p₃ : Spot = record { x = c.column; y = c.high } in
    let p₄ : Spot = record { x = c.to.x; y = c.high } in
    omega (
      arith,
      kept_length (turns c),
      length_next c.from p₁ (p₂ ∷ p₃ ∷ p₄ ∷ c.to ∷ []),
      length_next p₁ p₂ (p₃ ∷ p₄ ∷ c.to ∷ []),
      length_next p₂ p₃ (p₄ ∷ c.to ∷ []),
      length_next p₃ p₄ (c.to ∷ []),
      length_next p₄ c.to [],
      length_one c.to,
      steps_none c.from.x,
      steps_none c.low,
      steps_none c.column,
      steps_none c.high,
      steps_none c.to.x,
    )

-- of a course that goes up: level runs and upright runs
pub rising_length :
    (c : Course) → c.low < c.high
    → line_length (points_of c)
    ≡ (steps c.from.x c.column + steps c.column c.to.x) + (steps c.from.y c.low + (c.high - c.low) + steps c.high c.to.y)
rising_length c h = omega (arith, course_length c, steps_up c.low c.high (omega arith))

-- How long a line is

-- a part's row and the lane that its cable takes, which may be another
lane_step : (b : Bool) (u r : ℕ) → (b ≡ true → steps r u ≤ 1) → steps r (cond b u r) ≤ 1
lane_step true u r h = h refl
lane_step false u r h = omega (arith, steps_none r)

module _ (G : StGraph) (R : Ranked G) where
  from_step : (i : ℕ) → i < size G → steps (course_of G i).from.y (course_of G i).low ≤ 1
  unfolding course_of course part_spot row
  from_step i h =
      lane_step (eqb i (bottom_line G)) 0 (row G (lower G i)) λ e.
      let q : i ≡ bottom_line G = eqb-true i (bottom_line G) e in
      let z : lower G i ≡ 0 = ap (lower G) q ∙ (bottom_ends G (omega arith)).1 in
      steps_most (row G (lower G i)) 0 1 (omega (arith, bottom_rows_le G R)) (omega arith)

  to_step : (i : ℕ) → i < size G → steps (course_of G i).high (course_of G i).to.y ≤ 1
  unfolding course_of course part_spot row
  to_step i h =
      omega (
        arith,
        steps_back (course_of G i).high (course_of G i).to.y,
        lane_step (eqb i (top_line G)) (row G G.parts) (row G (upper G i)) (λ e.
            let q : i ≡ top_line G = eqb-true i (top_line G) e in
            let z : upper G i ≡ G.parts - 1 = ap (upper G) q ∙ (top_ends G (omega arith)).2 in
            omega (arith, steps_up (row G (upper G i)) (row G G.parts) (omega (arith, R.inside i h)))),
      )

  -- twice the width, once the height, and a step at either end
  pub line_most : 2 ≤ G.parts → (i : ℕ) → i < size G → line_length (points_of (course_of G i)) ≤ most_length G.parts
  unfolding course_of course rank_spot
  line_most two i h =
      let c : Course = course_of G i in
      let x : ℕ = (columns G G.parts).count - 1 in
      let w = columns_count G R two in
      let k : c.column ≤ x = omega (arith, cable_column_below G R G.parts i) in
      let a = steps_most c.from.x c.column x (omega (arith, (spots_within G R (lower G i) (lower_inside G R i h)).0)) k in
      let b = steps_most c.column c.to.x x k (omega (arith, (spots_within G R (upper G i) (R.inside i h)).0)) in
      omega (
        arith,
        rising_length c (rising G R i h),
        a,
        b,
        from_step i h,
        to_step i h,
        high_below G R i h,
        bottom_rows_le G R,
        top_rows_le G R,
        cables_le G R,
        w,
      )
