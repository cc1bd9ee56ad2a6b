-- The arcs of a drawing that meets demand 3 (2026-02: 'the arcs that the screen now draws where lines cross'): two cables that cross have
-- one crossing, and a spot is the crossing of two cables alone. So there are as many arcs as pairs. Assumes nothing.
use Prim.Native.Nat.{ℕ, ◌-◌, ◌<◌}
use native.Mathlib.Omega.{arith}
use native.Mathlib.Decide.{ℕ_discrete, dec_lt}
use mathlib.Core.Path.{◌≡◌, sym, ap, ◌∙◌, subst}
use mathlib.Core.Bool.{true}
use mathlib.Core.Logic.{◌⊎◌, inl, inr}
use mathlib.Core.List.{List}
use lib.ListN.{length}
use Rattle.geometry.specs.Spots.{Spot}
use Rattle.geometry.specs.Lines.{OnLine, OnLevel, OnUpright, Upright, NoPoint, CrossesOver, CrossingAt, CommonPart, Meetings}
use Rattle.drawing.specs.Drawing.{Drawing, route_at, points_at, Meets, cross_pair}
use Rattle.geometry.proofs.Spots.{spot_path}
use Rattle.geometry.proofs.Crossing.{lines_cross_e, lines_cross_i}

-- a crossing lies on both lines
level_line : (ps qs : List Spot) (s : Spot) → CrossesOver ps qs s → OnLine ps s
level_line ps qs s X = go X.level
  where
    go : OnLevel ps s → OnLine ps s
    go (k, g, l, o) = (k, g, o)

upright_line : (ps qs : List Spot) (s : Spot) → CrossesOver ps qs s → OnLine qs s
upright_line ps qs s X = go X.upright
  where
    go : OnUpright qs s → OnLine qs s
    go (k, g, u, o) = (k, g, o)

crossing_lines : (ps qs : List Spot) (s : Spot) → CrossingAt ps qs s → OnLine ps s × OnLine qs s
crossing_lines ps qs s (inl X) = (level_line ps qs s X, upright_line ps qs s X)
crossing_lines ps qs s (inr X) = (upright_line qs ps s X, level_line qs ps s X)

module _ {n m : ℕ} {spot : ℕ → Spot} {first last : ℕ → ℕ} {points : ℕ → List Spot} (M : Meetings n m spot first last points) where
  -- a line is level and upright in one spot only where that is a point of it
  one_way : (i : ℕ) → i < m → (s : Spot) → OnLevel (points i) s → OnUpright (points i) s → NoPoint (points i) s → ⊥
  one_way i h s (k, g, l, o) (j, f, u, p) N = go (dec_lt j k) (dec_lt k j)
    where
      go : Dec (j < k) → Dec (k < j) → ⊥
      go (yes a) b = N k (omega (arith, g)) (sym ((M.alone i h).itself j k a g s p o).1)
      go (no a) (yes b) = N j (omega (arith, f)) (sym ((M.alone i h).itself k j b f s o p).1)
      go (no a) (no b) = let e : j ≡ k = omega arith in (M.alone i h).differ k g (spot_path (subst (λ (z : ℕ). Upright (points i) z) e u) l)

  -- the spot of a part is a point of each cable that joins it
  part_point : (i : ℕ) → i < m → (s : Spot) → NoPoint (points i) s → (k : ℕ) → (k ≡ first i) ⊎ (k ≡ last i) → spot k ≡ s → ⊥
  part_point i h s N k (inl e) f = N 0 (omega (arith, (M.alone i h).two)) ((M.alone i h).starts ∙ ap spot (sym e) ∙ f)
  part_point i h s N k (inr e) f =
      N (length (points i) - 1) (omega (arith, (M.alone i h).two)) ((M.alone i h).ends (length (points i) - 1) (omega (arith, (M.alone i h).two)) ∙ ap spot (sym e) ∙ f)

  module _ (i j : ℕ) (g : i < m) (h : j < m) (f : i ≡ j → ⊥) (s : Spot) (a : OnLine (points i) s) (b : OnLine (points j) s) (N : NoPoint (points i) s) where
    crossing_at : CrossingAt (points i) (points j) s
    crossing_at = go ((M.together i j g h f).shared s a b)
      where
        go :
            CrossingAt (points i) (points j) s ⊎ CommonPart spot (first i) (last i) (first j) (last j) s
            → CrossingAt (points i) (points j) s
        go (inl X) = X
        go (inr (k, c, d, e)) = absurd (part_point i g s N k c e)

    -- where the one is level the other is upright, and the other way round
    over_other : OnLevel (points i) s → CrossesOver (points i) (points j) s
    over_other l = go crossing_at
      where
        go : CrossingAt (points i) (points j) s → CrossesOver (points i) (points j) s
        go (inl X) = X
        go (inr X) = absurd (one_way i g s l X.upright N)

    under_other : OnUpright (points i) s → CrossesOver (points j) (points i) s
    under_other u = go crossing_at
      where
        go : CrossingAt (points i) (points j) s → CrossesOver (points j) (points i) s
        go (inl X) = absurd (one_way i g s X.level u N)
        go (inr X) = X

  -- no third cable has a spot in which two cross
  third_over : (i j k : ℕ) → i < m → j < m → k < m → (i ≡ k → ⊥) → (j ≡ k → ⊥) → (s : Spot) → CrossesOver (points i) (points j) s → OnLine (points k) s → ⊥
  third_over i j k f g h p q s X o =
      let A = over_other i k f h p s (level_line (points i) (points j) s X) o X.free_first X.level in
      let B = under_other j k g h q s (upright_line (points i) (points j) s X) o X.free_second X.upright in
      one_way k h s B.level A.upright A.free_second

  third : (i j k : ℕ) → i < m → j < m → k < m → (i ≡ k → ⊥) → (j ≡ k → ⊥) → (s : Spot) → CrossingAt (points i) (points j) s → OnLine (points k) s → ⊥
  third i j k f g h p q s (inl X) o = third_over i j k f g h p q s X o
  third i j k f g h p q s (inr X) o = third_over j i k g f h q p s X o

  one_of : (i j k : ℕ) → i < m → j < m → k < m → (s : Spot) → CrossingAt (points i) (points j) s → OnLine (points k) s → (i ≡ k) ⊎ (j ≡ k)
  one_of i j k f g h s X o = go (ℕ_discrete i k) (ℕ_discrete j k)
    where
      go : Dec (i ≡ k) → Dec (j ≡ k) → (i ≡ k) ⊎ (j ≡ k)
      go (yes e) b = inl e
      go (no a) (yes e) = inr e
      go (no a) (no b) = absurd (third i j k f g h a b s X o)

  -- a spot is the crossing of one pair
  pub one_pair :
      (i j k l : ℕ) → i < j → j < m → k < l → l < m → (s : Spot) → CrossingAt (points i) (points j) s → CrossingAt (points k) (points l) s
      → (i ≡ k) × (j ≡ l)
  one_pair i j k l f g h p s X Y =
      let o = crossing_lines (points k) (points l) s Y in
      go (one_of i j k (omega arith) g (omega arith) s X o.0) (one_of i j l (omega arith) g p s X o.1)
    where
      go : (i ≡ k) ⊎ (j ≡ k) → (i ≡ l) ⊎ (j ≡ l) → (i ≡ k) × (j ≡ l)
      go (inl a) (inr b) = (a, b)
      go (inl a) (inl b) = absurd (omega arith)
      go (inr a) (inl b) = absurd (omega arith)
      go (inr a) (inr b) = absurd (omega arith)

-- a pair that has a crossing is counted, whichever parts the two join
pub counted : (d : Drawing) (i j : ℕ) (s : Spot) → CrossingAt (points_at d i) (points_at d j) s → cross_pair d (route_at d i) (route_at d j) ≡ true
unfolding cross_pair points_at
counted d i j s X = lines_cross_i (points_at d i) (points_at d j) s X

module _ (d : Drawing) (M : Meets d) (i j : ℕ) (f : i < j) (g : j < length d.routes) where
  -- and a pair that is counted has one crossing
  pub one_arc :
      cross_pair d (route_at d i) (route_at d j) ≡ true
      → (s : Spot) × CrossingAt (points_at d i) (points_at d j) s × ((r : Spot) → CrossingAt (points_at d i) (points_at d j) r → r ≡ s)
  unfolding cross_pair points_at
  one_arc h =
      let X = lines_cross_e (points_at d i) (points_at d j) h in
      (X.0, X.1, λ r Y. (M.together i j (omega arith) g (λ e. omega arith)).once r X.0 Y X.1)
