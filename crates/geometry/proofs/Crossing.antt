-- The executable crossing test agrees with document 01's definition of a crossing, on any two lists of points. Assumes nothing.
use Prim.Native.Nat.{ℕ, suc, ◌-◌, min, max}
use native.Mathlib.Omega.{arith}
use mathlib.Core.Path.{◌≡◌, sym, ap}
use mathlib.Core.Bool.{true, not, ◌&&◌}
use mathlib.Core.Logic.{◌⊎◌, inl, inr}
use mathlib.Core.List.{List}
use lib.ListN.{length}
use lib.Dec.{eqb, leb}
use borrow.Author.Tests.{eqb-true, eq-eqb, leb-true, le-leb}
use Rattle.lists.specs.Select.{any, range}
use Rattle.lists.proofs.Bools.{and_e, and_i, or_e, or_left, or_right, not_e, not_i, or_either}
use Rattle.lists.proofs.Any.{any_at_e, any_at_i, any_range_e, any_range_i}
use Rattle.geometry.specs.Spots.{Spot, origin, same_spot}
use Rattle.geometry.specs.Lines.{point, IsRun, OnRun, OnLevel, OnUpright, Between, Level, Upright, NoPoint, CrossesOver, CrossingAt}
use Rattle.geometry.specs.Crossing.{between, meeting_spot, runs_cross, crosses_over, lines_cross}
use Rattle.geometry.proofs.Spots.{spot_path, same_spot_lem, same_spot_e}

pub between_e : (p q s : Spot) → between p q s ≡ true → Between p q s
unfolding between
between_e p q s h =
    let a = leb (min p.x q.x) s.x in
    let b = leb s.x (max p.x q.x) in
    let c = leb (min p.y q.y) s.y in
    let d = leb s.y (max p.y q.y) in
    let r = and_e (a && b && c) d h in
    let t = and_e (a && b) c r.0 in
    let u = and_e a b t.0 in
    record { left = leb-true _ _ u.0; right = leb-true _ _ u.1; below = leb-true _ _ t.1; above = leb-true _ _ r.1 }

pub between_i : (p q s : Spot) → Between p q s → between p q s ≡ true
unfolding between
between_i p q s h =
    and_i _ _ (and_i _ _ (and_i _ _ (le-leb _ _ h.left) (le-leb _ _ h.right)) (le-leb _ _ h.below)) (le-leb _ _ h.above)

no_point_e : (ps : List Spot) (s : Spot) → not (any (same_spot s) ps) ≡ true → NoPoint ps s
unfolding point
no_point_e ps s h k l e =
    not_e (any (same_spot s) ps) h
    (any_at_i (same_spot s) origin ps k l (same_spot_lem s (point ps k) (ap (λ (p : Spot). p.x) (sym e)) (ap (λ (p : Spot). p.y) (sym e))))

no_point_i : (ps : List Spot) (s : Spot) → NoPoint ps s → not (any (same_spot s) ps) ≡ true
unfolding point
no_point_i ps s N =
    not_i (any (same_spot s) ps) λ h.
    let r = any_at_e (same_spot s) origin ps h in
    N r.0 r.1 (sym (same_spot_e s (point ps r.0) r.2))

-- a level run and an upright run meet in their one row and column
meets_at : (ps qs : List Spot) (k l : ℕ) (s : Spot) → Level ps k → OnRun ps k s → Upright qs l → OnRun qs l s → s ≡ meeting_spot ps k qs l
unfolding meeting_spot
meets_at ps qs k l s f g u v = spot_path (omega (arith, v.left, v.right)) (omega (arith, g.below, g.above))

module _ (ps qs : List Spot) where
  runs_cross_e :
      (k l : ℕ) → IsRun ps k → IsRun qs l → runs_cross ps k qs l ≡ true → CrossesOver ps qs (meeting_spot ps k qs l)
  unfolding runs_cross
  runs_cross_e k l g h r =
      let s = meeting_spot ps k qs l in
      let a = eqb (point ps k).y (point ps (suc k)).y in
      let b = eqb (point qs l).x (point qs (suc l)).x in
      let c = between (point ps k) (point ps (suc k)) s in
      let d = between (point qs l) (point qs (suc l)) s in
      let e = not (any (same_spot s) ps) in
      let f = not (any (same_spot s) qs) in
      let t = and_e (a && b && c && d && e) f r in
      let u = and_e (a && b && c && d) e t.0 in
      let v = and_e (a && b && c) d u.0 in
      let w = and_e (a && b) c v.0 in
      let z = and_e a b w.0 in
      record {
        level = (k, g, eqb-true _ _ z.0, between_e _ _ s w.1);
        upright = (l, h, eqb-true _ _ z.1, between_e _ _ s v.1);
        free_first = no_point_e ps s u.1;
        free_second = no_point_e qs s t.1;
      }

  runs_cross_i :
      (k l : ℕ) (s : Spot) → Level ps k → OnRun ps k s → Upright qs l → OnRun qs l s → NoPoint ps s → NoPoint qs s
      → s ≡ meeting_spot ps k qs l → runs_cross ps k qs l ≡ true
  unfolding runs_cross
  runs_cross_i k l s f g u v N M e =
      rw (← e)
      (and_i _ _
      (and_i _ _
      (and_i _ _ (and_i _ _ (and_i _ _ (eq-eqb _ _ f) (eq-eqb _ _ u)) (between_i _ _ s g)) (between_i _ _ s v))
      (no_point_i ps s N))
      (no_point_i qs s M))

  pub crosses_over_e : crosses_over ps qs ≡ true → (s : Spot) × CrossesOver ps qs s
  unfolding crosses_over
  crosses_over_e h =
      let r = any_range_e (λ k. any (λ l. runs_cross ps k qs l) (range (length qs - 1))) (length ps - 1) h in
      let t = any_range_e (λ l. runs_cross ps r.0 qs l) (length qs - 1) r.2 in
      (meeting_spot ps r.0 qs t.0, runs_cross_e r.0 t.0 (omega (arith, r.1)) (omega (arith, t.1)) t.2)

  pub crosses_over_i : (s : Spot) → CrossesOver ps qs s → crosses_over ps qs ≡ true
  unfolding crosses_over
  crosses_over_i s X = go X.level X.upright
    where
      go : OnLevel ps s → OnUpright qs s → crosses_over ps qs ≡ true
      go (k, a, f, g) (l, b, u, v) =
          any_range_i (λ i. any (λ j. runs_cross ps i qs j) (range (length qs - 1))) (length ps - 1) k (omega arith)
          (any_range_i (λ j. runs_cross ps k qs j) (length qs - 1) l (omega arith)
          (runs_cross_i k l s f g u v X.free_first X.free_second (meets_at ps qs k l s f g u v)))

-- 'their lines cross where they have one', for any two lists of points
pub lines_cross_e : (ps qs : List Spot) → lines_cross ps qs ≡ true → (s : Spot) × CrossingAt ps qs s
unfolding lines_cross
lines_cross_e ps qs h = go (or_e (crosses_over ps qs) (crosses_over qs ps) h)
  where
    go : (crosses_over ps qs ≡ true) ⊎ (crosses_over qs ps ≡ true) → (s : Spot) × CrossingAt ps qs s
    go (inl e) = let r = crosses_over_e ps qs e in (r.0, inl r.1)
    go (inr e) = let r = crosses_over_e qs ps e in (r.0, inr r.1)

pub lines_cross_i : (ps qs : List Spot) (s : Spot) → CrossingAt ps qs s → lines_cross ps qs ≡ true
unfolding lines_cross
lines_cross_i ps qs s (inl X) = or_left (crosses_over ps qs) (crosses_over qs ps) (crosses_over_i ps qs s X)
lines_cross_i ps qs s (inr X) = or_right (crosses_over ps qs) (crosses_over qs ps) (crosses_over_i qs ps s X)

-- which of the two comes first does not matter
pub lines_cross_either : (ps qs : List Spot) → lines_cross ps qs ≡ lines_cross qs ps
unfolding lines_cross
lines_cross_either ps qs = or_either (crosses_over ps qs) (crosses_over qs ps)
