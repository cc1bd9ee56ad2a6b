-- A spaced drawing: which spacings there are, its parts, routes, points and lengths by the grid's, and the grid's own. Assumes nothing.
use Rattle.std.specs.Prelude.{Option, Some, None}
use Prim.Native.Nat.{ℕ, ◌+◌, ◌-◌, ◌*◌, ◌/◌, ◌<◌, ◌≤◌}
use native.Mathlib.Nat.{add-mul, mul-le-mul_left, mul-lt-mul_of_pos_right, mul-div_cancel}
use native.Mathlib.Omega.{arith}
use native.Mathlib.Decide.{dec_lt}
use mathlib.Core.Path.{◌≡◌, refl, sym, ap, ap₂, ◌∙◌}
use mathlib.Core.Bool.{Bool, true, false, true≢false, cond}
use mathlib.Core.List.{List, [], ◌∷◌, ◌++◌, map, map-append}
use lib.ListN.{length, length-map}
use lib.Dec.{ltb, eqb}
use borrow.Author.Tests.{eq-eqb, ne_eqb, ltb-false, lt-ltb, le-ltb}
use Rattle.lists.specs.Select.{sum}
use Rattle.lists.proofs.Select.{get_d_map}
use Rattle.lists.proofs.Bools.{or_fails}
use Rattle.lists.proofs.Increasing.{Increasing, increasing_one}
use Rattle.lists.proofs.Maps.{map_one}
use Rattle.drawing.specs.declared.spacing.Spacing.{Spacing}
use Rattle.geometry.specs.Spots.{Spot, origin}
use Rattle.drawing.specs.Drawing.{Route, no_route, Drawing, spot_of, route_points, route_at, points_at, Meets}
use Rattle.drawing.specs.Lengths.{steps, line_length, grid_length}
use Rattle.drawing.specs.Spacing.{column_at, row_at, spaced_spot, spaced_route, spaced, on_grid, most_pitch, most_margin, bad_pitch, check13}
use Rattle.drawing.specs.Counts.{corner_count}
use Rattle.geometry.proofs.Spots.{spot_path}
use Rattle.drawing.proofs.Lengths.{steps_up, steps_back}
use Rattle.drawing.proofs.Inside.{Inside, inside_at}

-- Spacings

-- columns and rows keep their sequence, and no two fall together
pub record Increases (s : Spacing) : Type 0 where
  pub columns : Increasing (column_at s)
  pub rows : Increasing (row_at s)

-- the spacings that check 13 lets pass
pub record Spreads (s : Spacing) : Type 0 where
  pub column_some : 0 < s.column_pitch
  pub column_most : s.column_pitch ≤ most_pitch
  pub row_some : 0 < s.row_pitch
  pub row_most : s.row_pitch ≤ most_pitch
  pub margin_most : s.margin ≤ most_margin

good_pitch : (pitch : ℕ) → bad_pitch pitch ≡ false → (0 < pitch) × (pitch ≤ most_pitch)
good_pitch pitch e = let r = or_fails (eqb pitch 0) (ltb most_pitch pitch) e in (positive pitch r.0, ltb-false most_pitch pitch r.1)
  where
    positive : (k : ℕ) → eqb k 0 ≡ false → 0 < k
    positive k f = go (dec_lt 0 k)
      where
        go : Dec (0 < k) → 0 < k
        go (yes h) = h
        go (no h) = absurd (true≢false (sym (eq-eqb k 0 (omega arith)) ∙ f))

module _ (s : Spacing) where
  -- 'first fault given'
  pub column_fault : bad_pitch s.column_pitch ≡ true → check13 s ≡ Some 0
  unfolding check13
  column_fault e = rw e refl

  pub row_fault : bad_pitch s.column_pitch ≡ false → bad_pitch s.row_pitch ≡ true → check13 s ≡ Some 1
  unfolding check13
  row_fault e f = rw (e, f) refl

  pub margin_fault : bad_pitch s.column_pitch ≡ false → bad_pitch s.row_pitch ≡ false → most_margin < s.margin → check13 s ≡ Some 2
  unfolding check13
  margin_fault e f h = rw (e, f, lt-ltb most_margin s.margin h) refl

  pub no_fault : bad_pitch s.column_pitch ≡ false → bad_pitch s.row_pitch ≡ false → s.margin ≤ most_margin → check13 s ≡ None
  unfolding check13
  no_fault e f h = rw (e, f, le-ltb most_margin s.margin h) refl

  pub passed_13 : check13 s ≡ None → Spreads s
  unfolding check13
  passed_13 e = go (bad_pitch s.column_pitch) (bad_pitch s.row_pitch) (ltb most_margin s.margin) refl refl refl e
    where
      some_none : (k : ℕ) → Some k ≡ None → ⊥
      some_none k e = cc

      go :
          (a b c : Bool) → bad_pitch s.column_pitch ≡ a → bad_pitch s.row_pitch ≡ b → ltb most_margin s.margin ≡ c
          → cond {A = Option ℕ} a (Some 0) (cond {A = Option ℕ} b (Some 1) (cond {A = Option ℕ} c (Some 2) None)) ≡ None → Spreads s
      go true b c f g h q = absurd (some_none 0 q)
      go false true c f g h q = absurd (some_none 1 q)
      go false false true f g h q = absurd (some_none 2 q)
      go false false false f g h q =
          let column = good_pitch s.column_pitch f in
          let row = good_pitch s.row_pitch g in
          record {
            column_some = column.0;
            column_most = column.1;
            row_some = row.0;
            row_most = row.1;
            margin_most = ltb-false most_margin s.margin h;
          }

  -- and no others are sent back
  pub spreads_pass : Spreads s → check13 s ≡ None
  spreads_pass P = no_fault (fair s.column_pitch P.column_some P.column_most) (fair s.row_pitch P.row_some P.row_most) P.margin_most
    where
      fair : (pitch : ℕ) → 0 < pitch → pitch ≤ most_pitch → bad_pitch pitch ≡ false
      fair pitch h g = rw (ne_eqb pitch 0 (λ e. omega arith), le-ltb most_pitch pitch g) refl

  -- a pitch of more than 0 makes a strictly increasing map
  pub increases : Spreads s → Increases s
  unfolding column_at row_at
  increases P = record {
    columns = λ x y h. omega (arith, mul-lt-mul_of_pos_right {m = x} {n = y} {k = s.column_pitch} h P.column_some);
    rows = λ x y h. omega (arith, mul-lt-mul_of_pos_right {m = x} {n = y} {k = s.row_pitch} h P.row_some);
  }

-- what `spread` asks
pub column_fits : (s : Spacing) → check13 s ≡ None → (s.margin ≤ most_margin) × (s.column_pitch ≤ most_pitch)
column_fits s e = let P = passed_13 s e in (P.margin_most, P.column_most)

pub row_fits : (s : Spacing) → check13 s ≡ None → (s.margin ≤ most_margin) × (s.row_pitch ≤ most_pitch)
row_fits s e = let P = passed_13 s e in (P.margin_most, P.row_most)

-- a bound, so that sums of them fit 32 bits
pub column_small : (s : Spacing) → Spreads s → (x : ℕ) → column_at s x ≤ most_margin + x * most_pitch
unfolding column_at
column_small s P x = omega (arith, P.margin_most, mul-le-mul_left x P.column_most)

pub row_small : (s : Spacing) → Spreads s → (y : ℕ) → row_at s y ≤ most_margin + y * most_pitch
unfolding row_at
row_small s P y = omega (arith, P.margin_most, mul-le-mul_left y P.row_most)

pub grid_passes : check13 on_grid ≡ None
unfolding check13
grid_passes = refl

pub grid_increases : Increases on_grid
grid_increases = increases on_grid (passed_13 on_grid grid_passes)

-- Drawings

module _ (s : Spacing) (d : Drawing) where
  pub parts_spaced : length (spaced s d).parts ≡ length d.parts
  unfolding spaced
  parts_spaced = length-map d.parts (spaced_spot s)

  pub routes_spaced : length (spaced s d).routes ≡ length d.routes
  unfolding spaced
  routes_spaced = length-map d.routes (spaced_route s)

  pub spot_spaced : (p : ℕ) → p < length d.parts → spot_of (spaced s d) p ≡ spaced_spot s (spot_of d p)
  unfolding spaced spot_of
  spot_spaced p h = get_d_map (spaced_spot s) d.parts p origin origin h

  pub route_spaced : (i : ℕ) → i < length d.routes → route_at (spaced s d) i ≡ spaced_route s (route_at d i)
  unfolding spaced route_at
  route_spaced i h = get_d_map (spaced_route s) d.routes i no_route no_route h

  pub first_spaced : (i : ℕ) → i < length d.routes → (route_at (spaced s d) i).first ≡ (route_at d i).first
  unfolding spaced_route
  first_spaced i h = ap (λ (r : Route). r.first) (route_spaced i h)

  pub last_spaced : (i : ℕ) → i < length d.routes → (route_at (spaced s d) i).last ≡ (route_at d i).last
  unfolding spaced_route
  last_spaced i h = ap (λ (r : Route). r.last) (route_spaced i h)

  pub corners_spaced : (i : ℕ) → i < length d.routes → (route_at (spaced s d) i).corners ≡ map (spaced_spot s) (route_at d i).corners
  unfolding spaced_route
  corners_spaced i h = ap (λ (r : Route). r.corners) (route_spaced i h)

  -- the points of a cable, and those of the grid
  pub route_points_lem : (r : Route) → Inside (length d.parts) r → route_points (spaced s d) (spaced_route s r) ≡ map (spaced_spot s) (route_points d r)
  unfolding route_points spaced_route
  route_points_lem r I =
      ap₂ (λ (p q : Spot). p ∷ (map (spaced_spot s) r.corners ++ q ∷ [])) (spot_spaced r.first I.first_inside) (spot_spaced r.last I.last_inside)
      ∙ ap (λ (l : List Spot). spaced_spot s (spot_of d r.first) ∷ l) (sym (map-append (spaced_spot s) r.corners (spot_of d r.last ∷ [])))

  pub points_inside :
      (i : ℕ) → i < length d.routes → Inside (length d.parts) (route_at d i) → points_at (spaced s d) i ≡ map (spaced_spot s) (points_at d i)
  unfolding points_at
  points_inside i h J = ap (route_points (spaced s d)) (route_spaced i h) ∙ route_points_lem (route_at d i) J

  pub points_spaced : Meets d → (i : ℕ) → i < length d.routes → points_at (spaced s d) i ≡ map (spaced_spot s) (points_at d i)
  points_spaced M i h = points_inside i h (inside_at d M i h)

-- as many corners
pub corner_count_spaced : (s : Spacing) (rs : List Route) → corner_count (map (spaced_route s) rs) ≡ corner_count rs
unfolding spaced_route sum
corner_count_spaced s [] = refl
corner_count_spaced s (r ∷ rs) = ap₂ (λ (a b : ℕ). a + b) (length-map r.corners (spaced_spot s)) (corner_count_spaced s rs)

-- 'With pitches 1 and margin 0 .. the sheet is the one known so far.'

spot_unspaced : (p : Spot) → spaced_spot on_grid p ≡ p
unfolding spaced_spot column_at row_at
spot_unspaced p = spot_path (omega arith) (omega arith)

spots_unspaced : (l : List Spot) → map (spaced_spot on_grid) l ≡ l
spots_unspaced [] = refl
spots_unspaced (p ∷ l) = ap₂ {C = List Spot} (λ x xs. x ∷ xs) (spot_unspaced p) (spots_unspaced l)

routes_unspaced : (rs : List Route) → map (spaced_route on_grid) rs ≡ rs
unfolding spaced_route
routes_unspaced [] = refl
routes_unspaced (r ∷ rs) =
    ap₂ {C = List Route} (λ (l : List Spot) xs. record { first = r.first; last = r.last; corners = l } ∷ xs) (spots_unspaced r.corners) (routes_unspaced rs)

pub unspaced : (d : Drawing) → spaced on_grid d ≡ d
unfolding spaced column_at row_at
unspaced d =
    let w : 0 + d.width * 1 + 0 ≡ d.width = omega arith in
    let h : 0 + d.height * 1 + 0 ≡ d.height = omega arith in
    λ i. record { width = w i; height = h i; parts = spots_unspaced d.parts i; routes = routes_unspaced d.routes i }

-- A spaced drawing is that of one drawing on the grid alone.

module _ (s : Spacing) (I : Increases s) where
  spot_one : (p q : Spot) → spaced_spot s p ≡ spaced_spot s q → p ≡ q
  unfolding spaced_spot
  spot_one p q e =
      spot_path (increasing_one (column_at s) I.columns p.x q.x (ap (λ (z : Spot). z.x) e)) (increasing_one (row_at s) I.rows p.y q.y (ap (λ (z : Spot). z.y) e))

  route_one : (r q : Route) → spaced_route s r ≡ spaced_route s q → r ≡ q
  unfolding spaced_route
  route_one r q e =
      let corners = map_one (spaced_spot s) spot_one r.corners q.corners (ap (λ (z : Route). z.corners) e) in
      λ i. record { first = (e i).first; last = (e i).last; corners = corners i }

  pub spaced_one : (d e : Drawing) → spaced s d ≡ spaced s e → d ≡ e
  unfolding spaced
  spaced_one d e f =
      let w = increasing_one (column_at s) I.columns d.width e.width (omega (arith, ap (λ (z : Drawing). z.width) f)) in
      let h = increasing_one (row_at s) I.rows d.height e.height (omega (arith, ap (λ (z : Drawing). z.height) f)) in
      let parts = map_one (spaced_spot s) spot_one d.parts e.parts (ap (λ (z : Drawing). z.parts) f) in
      let routes = map_one (spaced_route s) route_one d.routes e.routes (ap (λ (z : Drawing). z.routes) f) in
      λ i. record { width = w i; height = h i; parts = parts i; routes = routes i }

-- Lengths: 'Run lengths .. still count grid steps'

steps_apart : (margin pitch a b : ℕ) → 0 < pitch → a ≤ b → steps (margin + a * pitch) (margin + b * pitch) / pitch ≡ steps a b
steps_apart margin pitch a b some h =
    let k : ℕ = b - a in
    let e : b * pitch ≡ a * pitch + k * pitch = ap (λ (z : ℕ). z * pitch) (more a b h) ∙ add-mul a k pitch in
    let f : steps (margin + a * pitch) (margin + b * pitch) ≡ k * pitch = omega (arith, e, steps_up (margin + a * pitch) (margin + b * pitch) (omega (arith, e))) in
    ap (λ (z : ℕ). z / pitch) f ∙ mul-div_cancel k some ∙ sym (steps_up a b h)
  where
    more : (x y : ℕ) → x ≤ y → y ≡ x + (y - x)
    more x y g = omega arith

pub steps_spaced : (margin pitch a b : ℕ) → 0 < pitch → steps (margin + a * pitch) (margin + b * pitch) / pitch ≡ steps a b
steps_spaced margin pitch a b some = go (dec_lt a b)
  where
    go : Dec (a < b) → steps (margin + a * pitch) (margin + b * pitch) / pitch ≡ steps a b
    go (yes h) = steps_apart margin pitch a b some (omega arith)
    go (no h) =
        ap (λ (z : ℕ). z / pitch) (steps_back (margin + a * pitch) (margin + b * pitch)) ∙ steps_apart margin pitch b a some (omega arith) ∙ steps_back b a

pub length_spaced : (s : Spacing) → Spreads s → (l : List Spot) → grid_length s (map (spaced_spot s) l) ≡ line_length l
unfolding grid_length line_length spaced_spot column_at row_at
length_spaced s P [] = refl
length_spaced s P (p ∷ []) = refl
length_spaced s P (p ∷ q ∷ r) =
    ap₂ (λ (a b : ℕ). a + b)
    (ap₂ (λ (a b : ℕ). a + b) (steps_spaced s.margin s.column_pitch p.x q.x P.column_some) (steps_spaced s.margin s.row_pitch p.y q.y P.row_some))
    (length_spaced s P (q ∷ r))
