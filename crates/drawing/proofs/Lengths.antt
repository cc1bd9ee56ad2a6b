-- The length of a line, point by point, is the same from either end; the lengths of a drawing's lines, by line. Assumes nothing.
use Prim.Native.Nat.{ℕ, ◌+◌, ◌-◌, ◌<◌, ◌≤◌}
use native.Mathlib.Omega.{arith}
use mathlib.Core.Path.{◌≡◌, refl}
use mathlib.Core.List.{List, [], ◌∷◌, reverse, reverse_aux}
use lib.ListN.{length, get_or}
use Rattle.lists.proofs.Select.{length_tabulate, get_d_tabulate}
use Rattle.geometry.specs.Spots.{Spot}
use Rattle.drawing.specs.Drawing.{Drawing, points_at}
use Rattle.drawing.specs.Lengths.{steps, distance, line_length, cable_lengths}

-- Steps

pub steps_none : (a : ℕ) → steps a a ≡ 0
unfolding steps
steps_none a = omega arith

pub steps_back : (a b : ℕ) → steps a b ≡ steps b a
unfolding steps
steps_back a b = omega arith

pub steps_up : (a b : ℕ) → a ≤ b → steps a b ≡ b - a
unfolding steps
steps_up a b h = omega arith

pub steps_most : (a b w : ℕ) → a ≤ w → b ≤ w → steps a b ≤ w
unfolding steps
steps_most a b w h g = omega arith

-- Lines

pub length_next : (p q : Spot) (l : List Spot) → line_length (p ∷ q ∷ l) ≡ distance p q + line_length (q ∷ l)
unfolding line_length
length_next p q l = refl

pub length_one : (p : Spot) → line_length (p ∷ []) ≡ 0
unfolding line_length
length_one p = refl

-- two lines that start at p, the one read backward and then the other
length_joined : (p : Spot) (l r : List Spot) → line_length (reverse_aux l (p ∷ r)) ≡ line_length (p ∷ l) + line_length (p ∷ r)
length_joined p [] r = omega (arith, length_one p)
length_joined p (q ∷ l) r =
    omega (arith, length_joined q l (p ∷ r), length_next p q l, length_next q p r, steps_back p.x q.x, steps_back p.y q.y)

-- 'the grid steps along that cable's line', from whichever of its ends
pub length_reverse : (l : List Spot) → line_length (reverse l) ≡ line_length l
length_reverse [] = refl
length_reverse (p ∷ l) = omega (arith, length_joined p l [], length_one p)

-- The lengths of a drawing's lines

module _ (d : Drawing) where
  pub lengths_count : length (cable_lengths d) ≡ length d.routes
  unfolding cable_lengths
  lengths_count = length_tabulate (length d.routes) _

  pub length_at : (i : ℕ) → i < length d.routes → get_or (cable_lengths d) i 0 ≡ line_length (points_at d i)
  unfolding cable_lengths
  length_at i h = get_d_tabulate (length d.routes) _ i 0 h
