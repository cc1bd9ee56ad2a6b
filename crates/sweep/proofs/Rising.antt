-- Two lines may be held against each other either way round, and a search over pairs finds the lowest line of a pair with its lower line
-- first. Assumes nothing.
use Rattle.std.specs.Prelude.{Some, None}
use Prim.Native.Nat.{ℕ, ◌<◌, ◌≤◌}
use native.Mathlib.Omega.{arith}
use native.Mathlib.Decide.{dec_lt}
use mathlib.Core.Path.{◌≡◌, refl, sym, ◌∙◌}
use mathlib.Core.Bool.{Bool, true, false, cond, not, ◌&&◌}
use mathlib.Core.List.{List}
use lib.ListN.{length}
use lib.Dec.{eqb, ltb}
use borrow.Author.Tests.{eq-eqb, eqb-true, ltb-true, ltb-false, not-true}
use Rattle.lists.specs.Search.{seek}
use Rattle.lists.specs.Select.{any, range}
use Rattle.lists.proofs.Bools.{and_e, and_i, not_e, not_i, same_test}
use Rattle.lists.proofs.Any.{any_range_e, any_range_i}
use Rattle.lists.proofs.Seek.{seek_first, seek_none}
use Rattle.geometry.specs.Spots.{Spot}
use Rattle.geometry.specs.Lines.{Lone, point}
use Rattle.drawing.specs.Drawing.{Drawing, spot_of, route_at, points_at}
use Rattle.validation.specs.Judging.{Fits, together}
use Rattle.validation.proofs.Pairs.{together_back}
use Rattle.validation.proofs.Judging.{together_e, together_i}

-- Either way round

pub together_either :
    (width height n : ℕ) (spot : ℕ → Spot) (a b : ℕ) (ps : List Spot) (c d : ℕ) (qs : List Spot)
    → Lone n spot a b ps → Lone n spot c d qs → ((k : ℕ) → k < length ps → Fits width height (point ps k))
    → ((k : ℕ) → k < length qs → Fits width height (point qs k)) → together width height ps qs ≡ together width height qs ps
together_either width height n spot a b ps c d qs L K F G =
    same_test (together width height ps qs) (together width height qs ps)
    (λ h.
    together_i width height n spot c d qs a b ps K L G
    (together_back spot a b ps c d qs (together_e width height n spot a b ps c d qs L K F h)))
    (λ h.
    together_i width height n spot a b ps c d qs L K F
    (together_back spot c d qs a b ps (together_e width height n spot c d qs a b ps K L G h)))

-- the line of cable i is right by itself, and its points are inside the head
abbrev pub LoneLine : Drawing → ℕ → Type 0
LoneLine d i = Lone (length d.parts) (spot_of d) (route_at d i).first (route_at d i).last (points_at d i)

abbrev pub LineInHead : Drawing → ℕ → Type 0
LineInHead d i = (k : ℕ) → k < length (points_at d i) → Fits d.width d.height (point (points_at d i) k)

-- the lines of cables i and j meet as they may
abbrev pub pair_together : Drawing → ℕ → ℕ → Bool
pair_together d i j = together d.width d.height (points_at d i) (points_at d j)

pub pair_either :
    (d : Drawing) (i j : ℕ) → LoneLine d i → LoneLine d j → LineInHead d i → LineInHead d j → pair_together d i j ≡ pair_together d j i
pair_either d i j L K F G =
    together_either d.width d.height (length d.parts) (spot_of d) (route_at d i).first (route_at d i).last (points_at d i)
    (route_at d j).first (route_at d j).last (points_at d j) L K F G

-- Searches

-- the lowest that passes, or the count where none does, is what a search finds
pub lowest_seek :
    (p : ℕ → Bool) (m k : ℕ) → k ≤ m → (k < m → p k ≡ true) → ((i : ℕ) → i < m → p i ≡ true → k ≤ i)
    → seek p 0 m ≡ cond (ltb k m) (Some k) None
lowest_seek p m k l f g = go (ltb k m) refl
  where
    below : (i : ℕ) → i < k → i < m → p i ≡ false
    below i a b = not-true (p i) (not_i (p i) λ h. omega (arith, g i b h))

    go : (b : Bool) → ltb k m ≡ b → seek p 0 m ≡ cond b (Some k) None
    go true e =
        let h = ltb-true k m e in
        seek_first p 0 m record { from = omega arith; below = omega arith; passes = f h; none = λ j a b. below j b (omega arith) }
    go false e = let h = ltb-false k m e in seek_none p 0 m λ j a b. below j (omega arith) (omega arith)

-- pairs of different numbers, each tried both ways round
pub lowest_of_pairs :
    (w : ℕ → ℕ → Bool) (m k : ℕ) → k ≤ m → (k < m → (j : ℕ) × (k < j) × (j < m) × (w k j ≡ true))
    → ((i j : ℕ) → i < j → j < m → w i j ≡ true → k ≤ i)
    → ((i j : ℕ) → i < m → j < m → (i ≡ j → ⊥) → w i j ≡ w j i)
    → seek (λ i. any (λ j. not (eqb i j) && w i j) (range m)) 0 m ≡ cond (ltb k m) (Some k) None
lowest_of_pairs w m k l f g s = lowest_seek (λ i. any (λ j. not (eqb i j) && w i j) (range m)) m k l found lowest
  where
    found : k < m → any (λ j. not (eqb k j) && w k j) (range m) ≡ true
    found h =
        let r = f h in
        any_range_i (λ j. not (eqb k j) && w k j) m r.0 r.2
        (and_i (not (eqb k r.0)) (w k r.0) (not_i (eqb k r.0) λ e. omega (arith, eqb-true k r.0 e, r.1)) r.3)

    of_two : (i j : ℕ) → i < m → j < m → (i ≡ j → ⊥) → w i j ≡ true → Dec (i < j) → k ≤ i
    of_two i j a b n h (yes q) = g i j q b h
    of_two i j a b n h (no q) = omega (arith, g j i (omega arith) a (s j i b a (λ e. n (sym e)) ∙ h))

    lowest : (i : ℕ) → i < m → any (λ j. not (eqb i j) && w i j) (range m) ≡ true → k ≤ i
    lowest i a h =
        let r = any_range_e (λ j. not (eqb i j) && w i j) m h in
        let t = and_e (not (eqb i r.0)) (w i r.0) r.2 in
        of_two i r.0 a r.1 (λ e. not_e (eqb i r.0) t.0 (eq-eqb i r.0 e)) t.1 (dec_lt i r.0)
