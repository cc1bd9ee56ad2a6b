-- Of a drawing's cable with alternating runs inside the head, the rows find something wrong exactly if it breaks what is asked of it by
-- itself: it touches itself, or a part that it does not join. Assumes nothing.
use Prim.Native.Nat.{ℕ, suc, ◌<◌, ◌≤◌}
use native.Mathlib.Omega.{arith}
use mathlib.Core.Path.{◌≡◌, refl, sym, ap, ◌∙◌, subst}
use mathlib.Core.Bool.{Bool, true, false, not, ◌&&◌, ◌||◌, true≢false}
use mathlib.Core.Logic.{◌⊎◌, inl, inr, ⊎_elim}
use mathlib.Core.List.{List, Memᴰ}
use lib.ListN.{length}
use lib.Dec.{eqb}
use borrow.Author.Tests.{eq-eqb, not-false}
use Rattle.lists.proofs.Bools.{and_i, and_fails, or_fails, not_e}
use Rattle.geometry.specs.Spots.{Spot, spot_at}
use Rattle.geometry.specs.Lines.{Lone, point, OnLine}
use Rattle.geometry.proofs.Spots.{spot_path}
use Rattle.drawing.specs.Drawing.{Route, Drawing, spot_of, route_points, route_at}
use Rattle.validation.specs.Alone.{on_line, touches_itself, alternates, joins_parts, passes_others, lone}
use Rattle.validation.proofs.Alone.{each_fails, Alternating, joins_parts_i, alternates_e, on_line_e, lone_e, touches_not_i, ends_apart}
use Rattle.validation.proofs.Directions.{line_length_lem, last_at}
use Rattle.sweep.specs.Visits.{Visit}
use Rattle.sweep.specs.Sweep.{route_visits}
use Rattle.sweep.specs.Rows.{visits_of, columns, repeats, Strange, RowWrong}
use Rattle.sweep.proofs.Visits.{two_points, visited_on_line, on_line_visited}
use Rattle.sweep.proofs.Repeats.{repeats_touch, touch_repeats}

-- A line by itself

-- a part on the line that the cable does not join, where the test finds one
passes_others_fails :
    (n : ℕ) (spot : ℕ → Spot) (a b : ℕ) (ps : List Spot) → passes_others n spot a b ps ≡ false
    → (p : ℕ) × (p < n) × (p ≡ a → ⊥) × (p ≡ b → ⊥) × OnLine ps (spot p)
unfolding passes_others
passes_others_fails n spot a b ps h =
    let r = each_fails (λ p. eqb p a || eqb p b || not (on_line ps (spot p))) n h in
    let p = r.0 in
    let t = or_fails (eqb p a || eqb p b) (not (on_line ps (spot p))) r.2 in
    let u = or_fails (eqb p a) (eqb p b) t.0 in (
      p,
      r.1,
      (λ e. true≢false (sym (eq-eqb p a e) ∙ u.0)),
      (λ e. true≢false (sym (eq-eqb p b e) ∙ u.1)),
      on_line_e ps (spot p) (not-false _ t.1),
    )

-- a line that is wrong by itself, though it joins its parts by alternating runs
lone_fails :
    (n : ℕ) (spot : ℕ → Spot) (a b : ℕ) (ps : List Spot) → joins_parts n spot a b ps ≡ true → alternates ps ≡ true
    → lone n spot a b ps ≡ false → (touches_itself ps ≡ true) ⊎ (passes_others n spot a b ps ≡ false)
unfolding lone
lone_fails n spot a b ps J A h = go (touches_itself ps) refl
  where
    go : (t : Bool) → touches_itself ps ≡ t → (touches_itself ps ≡ true) ⊎ (passes_others n spot a b ps ≡ false)
    go true e = inl e
    go false e =
        inr (and_fails (joins_parts n spot a b ps && alternates ps && not (touches_itself ps)) (passes_others n spot a b ps) h
        (and_i _ _ (and_i _ _ J A) (ap not e)))

-- a spot on a line is no higher than the highest of its points
on_line_within : (ps : List Spot) (h : ℕ) → ((k : ℕ) → k < length ps → (point ps k).y ≤ h) → (s : Spot) → OnLine ps s → s.y ≤ h
on_line_within ps h H s (k, l, B) = omega (arith, B.above, H k (omega arith), H (suc k) l)

-- A cable of a drawing

module _ (d : Drawing) (i : ℕ) (A : alternates (route_points d (route_at d i)) ≡ true) where
  abbrev route : Route
  route = route_at d i

  abbrev points : List Spot
  points = route_points d route

  -- the cable is right by itself: what is asked of it, and the test
  abbrev Single : Type 0
  Single = Lone (length d.parts) (spot_of d) route.first route.last points

  abbrev single : Bool
  single = lone (length d.parts) (spot_of d) route.first route.last points

  row_straight : Alternating points
  row_straight = alternates_e points A

  row_touches : (y : ℕ) → repeats (columns (visits_of d y i)) ≡ true → touches_itself points ≡ true
  unfolding route_points route_visits
  row_touches y h = repeats_touch (spot_of d route.first) route.corners (spot_of d route.last) A y h

  touches_row : touches_itself points ≡ true → (s : Spot) × OnLine points s × (repeats (columns (visits_of d s.y i)) ≡ true)
  unfolding route_points route_visits
  touches_row h = touch_repeats (spot_of d route.first) route.corners (spot_of d route.last) A h

  visit_on : {v : Visit} (y : ℕ) → Memᴰ v (visits_of d y i) → OnLine points (spot_at v.column y)
  unfolding route_points route_visits
  visit_on y m = visited_on_line (spot_of d route.first) route.corners (spot_of d route.last) row_straight.straight y m

  on_visit : (s : Spot) → OnLine points s → (v : Visit) × Memᴰ v (visits_of d s.y i) × (v.column ≡ s.x)
  unfolding route_points route_visits
  on_visit s o = on_line_visited (spot_of d route.first) route.corners (spot_of d route.last) row_straight.straight s o

  -- a line that is right by itself passes no strange spot
  strange_off : Single → (s : Spot) → OnLine points s → Strange d route s → ⊥
  strange_off L s o (inl (p, l, e, f, g)) = ⊎_elim f g (L.others p l (subst (λ (t : Spot). OnLine points t) (sym e) o))
  strange_off L s o (inr (p, q, h, l, e, f)) = go (own p (omega arith) e) (own q l f)
    where
      own : (r : ℕ) → r < length d.parts → spot_of d r ≡ s → (r ≡ route.first) ⊎ (r ≡ route.last)
      own r k e = L.others r k (subst (λ (t : Spot). OnLine points t) (sym e) o)

      apart : spot_of d route.first ≡ spot_of d route.last → ⊥
      apart = ends_apart (length d.parts) (spot_of d) route.first route.last points L

      go : (p ≡ route.first) ⊎ (p ≡ route.last) → (q ≡ route.first) ⊎ (q ≡ route.last) → ⊥
      go (inl a) (inl b) = omega arith
      go (inl a) (inr b) = apart (ap (spot_of d) (sym a) ∙ e ∙ sym f ∙ ap (spot_of d) b)
      go (inr a) (inl b) = apart (ap (spot_of d) (sym b) ∙ f ∙ sym e ∙ ap (spot_of d) a)
      go (inr a) (inr b) = omega arith

  -- what the rows find is wrong
  pub wrong_row : RowWrong d i → lone (length d.parts) (spot_of d) route.first route.last points ≡ false
  wrong_row W = go single refl
    where
      right : Single → RowWrong d i → ⊥
      right L (y, h, inl r) = not_e (touches_itself points) (touches_not_i points L.itself) (row_touches y r)
      right L (y, h, inr (v, m, S)) = strange_off L (spot_at v.column y) (visit_on y m) S

      go : (b : Bool) → single ≡ b → single ≡ false
      go true e = absurd (right (lone_e (length d.parts) (spot_of d) route.first route.last points e) W)
      go false e = e

  module _
      (first-in : route.first < length d.parts) (last-in : route.last < length d.parts) (N : route.first ≡ route.last → ⊥)
      (H : (k : ℕ) → k < length points → (point points k).y ≤ d.height)
    where
      row_joins : joins_parts (length d.parts) (spot_of d) route.first route.last points ≡ true
      unfolding route_points point
      row_joins =
          joins_parts_i (length d.parts) (spot_of d) route.first route.last points
          (record {
            starts = refl;
            ends = λ k e.
                let f = spot_of d route.first in
                let l = spot_of d route.last in
                last_at f l route.corners k (omega (arith, line_length_lem f l route.corners));
            two = two_points (spot_of d route.first) route.corners (spot_of d route.last);
            parts = (first-in, last-in, N);
          })

      -- and what is wrong they find
      pub row_wrong : lone (length d.parts) (spot_of d) route.first route.last points ≡ false → RowWrong d i
      row_wrong h = go (lone_fails (length d.parts) (spot_of d) route.first route.last points row_joins A h)
        where
          go :
              (touches_itself points ≡ true) ⊎ (passes_others (length d.parts) (spot_of d) route.first route.last points ≡ false)
              → RowWrong d i
          go (inl e) = let r = touches_row e in (r.0.y, on_line_within points d.height H r.0 r.1, inl r.2)
          go (inr e) =
              let r = passes_others_fails (length d.parts) (spot_of d) route.first route.last points e in
              let s = spot_of d r.0 in
              let t = on_visit s r.4 in
              let S : Strange d route (spot_at t.0.column s.y) = inl (r.0, r.1, spot_path (sym t.2) refl, r.2, r.3) in
              (s.y, on_line_within points d.height H s r.4, inr (t.0, t.1, S))
