-- The test of two lines over the spots of a sheet agrees with what document 01's words ask of two cables. Assumes nothing.
use Prim.Native.Nat.{ℕ, suc, ◌<◌, ◌≤◌, max}
use native.Mathlib.Omega.{arith}
use mathlib.Core.Path.{◌≡◌}
use mathlib.Core.Bool.{Bool, true, not, ◌||◌}
use mathlib.Core.Logic.{inl, inr, ⊎_elim}
use mathlib.Core.List.{List}
use lib.ListN.{length}
use Rattle.lists.proofs.Bools.{and_e, and_i, or_e, or_left, or_right, not_e, not_i}
use Rattle.geometry.specs.Spots.{Spot, spot_at, same_spot}
use Rattle.geometry.specs.Lines.{Lone, Together, point, OnLine, CrossingAt}
use Rattle.validation.specs.Alone.{each}
use Rattle.validation.specs.Ways.{way_at, wrong_ways, Passing}
use Rattle.validation.specs.Judging.{Fits, each_spot, cross_here, allowed, only_at, once_at, together}
use Rattle.geometry.proofs.Spots.{same_spot_e}
use Rattle.validation.proofs.Alone.{each_e, each_i, not_same, same_spot_i}
use Rattle.validation.proofs.Ways.{crossing_ways_e, clash_e, wrong_ways_e, common_part, together_passing, passing_together}

-- Tests

implies_e : (a b : Bool) → (not a || b) ≡ true → a ≡ true → b ≡ true
implies_e a b h e = ⊎_elim (λ f. absurd (not_e a f e)) (λ f. f) (or_e (not a) b h)

implies_i : (a b : Bool) → (a ≡ true → b ≡ true) → (not a || b) ≡ true
implies_i a b f = ⊎_elim (λ e. or_right (not a) b (f e)) (λ e. or_left (not a) b (not_i a e)) (not_same a)

module _ (width height : ℕ) (p : Spot → Bool) where
  pub each_spot_e : each_spot width height p ≡ true → (s : Spot) → Fits width height s → p s ≡ true
  unfolding each_spot
  each_spot_e h s F =
      each_e (λ x. p (spot_at x s.y)) (suc width)
      (each_e (λ y. each (λ x. p (spot_at x y)) (suc width)) (suc height) h s.y (omega (arith, F.up)))
      s.x (omega (arith, F.across))

  pub each_spot_i : ((s : Spot) → Fits width height s → p s ≡ true) → each_spot width height p ≡ true
  unfolding each_spot
  each_spot_i f =
      each_i (λ y. each (λ x. p (spot_at x y)) (suc width)) (suc height) λ y g.
      each_i (λ x. p (spot_at x y)) (suc width) λ x l. f (spot_at x y) (record { across = omega arith; up = omega arith })

-- A line whose points fit lies on the sheet.

at_most : (a b s w : ℕ) → s ≤ max a b → a ≤ w → b ≤ w → s ≤ w
at_most a b s w h f g = omega arith

pub line_fits :
    (width height : ℕ) (ps : List Spot) → ((k : ℕ) → k < length ps → Fits width height (point ps k))
    → (s : Spot) → OnLine ps s → Fits width height s
line_fits width height ps F s (k, l, B) =
    let f = F k (omega arith) in
    let g = F (suc k) l in
    record {
      across = at_most (point ps k).x (point ps (suc k)).x s.x width B.right f.across g.across;
      up = at_most (point ps k).y (point ps (suc k)).y s.y height B.above f.up g.up;
    }

-- Two lines

module _
    (width height n : ℕ) (spot : ℕ → Spot) (a b : ℕ) (ps : List Spot) (c d : ℕ) (qs : List Spot)
    (L : Lone n spot a b ps) (K : Lone n spot c d qs) (F : (k : ℕ) → k < length ps → Fits width height (point ps k))
  where
    -- a crossing and a clash are on the first line, and so on the sheet
    crossing_on : (s : Spot) → CrossingAt ps qs s → OnLine ps s
    crossing_on s (inl X) = let r = X.level in (r.0, r.1, r.3)
    crossing_on s (inr X) = let r = X.upright in (r.0, r.1, r.3)

    cross_fits : (s : Spot) → cross_here ps qs s ≡ true → Fits width height s
    unfolding cross_here
    cross_fits s h = line_fits width height ps F s (crossing_on s (crossing_ways_e n spot a b ps c d qs L K s h))

    wrong_fits : (s : Spot) → wrong_ways (way_at ps s) (way_at qs s) ≡ true → Fits width height s
    wrong_fits s h =
        line_fits width height ps F s (clash_e n spot a b ps c d qs L K s (wrong_ways_e n spot a b ps c d qs L K s h).0).0

    passing_i : Passing spot a b ps c d qs → together width height ps qs ≡ true
    unfolding together allowed cross_here
    passing_i P =
        and_i _ _
        (each_spot_i width height (allowed ps qs) λ s f.
        not_i (wrong_ways (way_at ps s) (way_at qs s)) λ h. let t = wrong_ways_e n spot a b ps c d qs L K s h in t.1 (P.shared s t.0))
        (each_spot_i width height (once_at width height ps qs) λ s f.
        implies_i (cross_here ps qs s) (each_spot width height (only_at ps qs s)) λ h.
        each_spot_i width height (only_at ps qs s) λ r g.
        implies_i (cross_here ps qs r) (same_spot s r) λ q. same_spot_i s r (P.once s r h q))

    passing_e : together width height ps qs ≡ true → Passing spot a b ps c d qs
    unfolding together allowed cross_here
    passing_e h =
        let t = and_e (each_spot width height (allowed ps qs)) (each_spot width height (once_at width height ps qs)) h in
        record {
          once = λ s r f g.
              let u =
              implies_e (cross_here ps qs s) (each_spot width height (only_at ps qs s))
              (each_spot_e width height (once_at width height ps qs) t.1 s (cross_fits s f)) f in
              same_spot_e s r
              (implies_e (cross_here ps qs r) (same_spot s r) (each_spot_e width height (only_at ps qs s) u r (cross_fits r g)) g);
          shared = λ s f.
              common_part n spot a b ps c d qs L K s f λ e.
              not_e (wrong_ways (way_at ps s) (way_at qs s)) (each_spot_e width height (allowed ps qs) t.0 s (wrong_fits s e)) e;
        }

    pub together_i : Together spot a b ps c d qs → together width height ps qs ≡ true
    together_i T = passing_i (together_passing n spot a b ps c d qs L K T)

    pub together_e : together width height ps qs ≡ true → Together spot a b ps c d qs
    together_e h = passing_together n spot a b ps c d qs L K (passing_e h)
