-- A line whose points all lie below a row, or all above it, has no spot in that row. Assumes nothing.
use Prim.Native.Nat.{ℕ, suc, ◌<◌, min, max}
use native.Mathlib.Omega.{arith}
use native.Mathlib.Decide.{ℕ_discrete}
use mathlib.Core.Path.{◌≡◌, refl}
use mathlib.Core.Bool.{Bool, true, false}
use mathlib.Core.List.{List, [], ◌∷◌}
use lib.ListN.{length}
use borrow.Author.Tests.{eq-eqb, ne_eqb, lt-ltb, le-ltb}
use Rattle.geometry.specs.Spots.{Spot}
use Rattle.geometry.specs.Lines.{point}
use Rattle.sweep.specs.Visits.{end_visits, corner_visits, open_visits, visits_behind, line_visits}

-- a row on one side of row y: below it, or above it
abbrev pub Aside : Bool → ℕ → ℕ → Type 0
Aside true y r = r < y
Aside false y r = y < r

module _ (y : ℕ) where
  other_row : (below : Bool) (r : ℕ) → Aside below y r → r ≡ y → ⊥
  other_row true r a e = omega arith
  other_row false r a e = omega arith

  module _ (below : Bool) where
    end_none : (s : Spot) → Aside below y s.y → end_visits y s ≡ []
    unfolding end_visits
    end_none s a = rw (ne_eqb s.y y (other_row below s.y a)) refl

    corner_none : (s : Spot) → Aside below y s.y → corner_visits y s ≡ []
    unfolding corner_visits
    corner_none s a = rw (ne_eqb s.y y (other_row below s.y a)) refl

  level_none : (below : Bool) (p q : Spot) → p.y ≡ q.y → Aside below y p.y → open_visits y p q ≡ []
  unfolding open_visits
  level_none below p q e a = rw (eq-eqb p.y q.y e, ne_eqb p.y y (other_row below p.y a)) refl

  upright_none : (below : Bool) (p q : Spot) → (p.y ≡ q.y → ⊥) → Aside below y p.y → Aside below y q.y → open_visits y p q ≡ []
  unfolding open_visits
  upright_none true p q n a b =
      rw (ne_eqb p.y q.y n, lt-ltb (min p.y q.y) y (omega arith), le-ltb y (max p.y q.y) (omega arith)) refl
  upright_none false p q n a b = rw (ne_eqb p.y q.y n, le-ltb (min p.y q.y) y (omega arith)) refl

  module _ (below : Bool) where
    open_none : (p q : Spot) → Aside below y p.y → Aside below y q.y → open_visits y p q ≡ []
    open_none p q a b = go (ℕ_discrete p.y q.y)
      where
        go : Dec (p.y ≡ q.y) → open_visits y p q ≡ []
        go (yes e) = level_none below p q e a
        go (no n) = upright_none below p q n a b

    behind_none :
        (p : Spot) (cs : List Spot) (l : Spot) → Aside below y p.y → ((j : ℕ) → j < length cs → Aside below y (point cs j).y)
        → Aside below y l.y → visits_behind y p cs l ≡ []
    unfolding visits_behind point
    behind_none p [] l a all b = rw (open_none p l a b, end_none below l b) refl
    behind_none p (c ∷ cs) l a all b =
        let h = all 0 (omega arith) in
        rw (open_none p c a h, corner_none below c h) (behind_none c cs l h (λ j i. all (suc j) (omega arith)) b)

    pub line_none :
        (f : Spot) (cs : List Spot) (l : Spot) → Aside below y f.y → ((j : ℕ) → j < length cs → Aside below y (point cs j).y)
        → Aside below y l.y → line_visits y f cs l ≡ []
    unfolding line_visits
    line_none f cs l a all b = rw (end_none below f a, behind_none f cs l a all b) refl
