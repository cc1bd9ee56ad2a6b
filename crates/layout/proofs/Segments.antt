-- One course: its six turns by number, 0 to 5, and the points kept of them, which are the turns from one of 0, 1, 2 to one of 3, 4, 5.
-- Segment q goes from turn q to turn q + 1; even ones are upright, odd ones level. Assumes nothing.
use Prim.Native.Nat.{ℕ, zero, suc, ◌+◌, ◌<◌, ◌≤◌}
use native.Mathlib.Nat.{add-zero}
use native.Mathlib.Omega.{arith}
use native.Mathlib.Decide.{ℕ_discrete, dec_lt}
use mathlib.Core.Path.{◌≡◌, refl, sym}
use mathlib.Core.Bool.{false}
use mathlib.Core.List.{List, [], ◌∷◌}
use lib.ListN.{length}
use Rattle.geometry.specs.Spots.{Spot, same_spot}
use Rattle.layout.specs.Points.{Course, turns, drop_repeats, points_of}
use Rattle.geometry.specs.Lines.{point}
use Rattle.geometry.proofs.Spots.{spot_path, same_spot_lem, other_column, other_row}

-- A course whose lanes enclose its parts' rows, and that has a lane beyond a part's row only where its column is not the part's.
pub record Proper (c : Course) : Type 0 where
  pub rises : c.from.y < c.to.y
  pub low_le : c.low ≤ c.from.y
  pub high_ge : c.to.y ≤ c.high
  pub dip : c.low < c.from.y → c.column ≡ c.from.x → ⊥
  pub climb : c.to.y < c.high → c.column ≡ c.to.x → ⊥

abbrev pub turn : Course → ℕ → Spot
turn c zero = c.from
turn c (suc zero) = record { x = c.from.x; y = c.low }
turn c (suc (suc zero)) = record { x = c.column; y = c.low }
turn c (suc (suc (suc zero))) = record { x = c.column; y = c.high }
turn c (suc (suc (suc (suc zero)))) = record { x = c.to.x; y = c.high }
turn c (suc (suc (suc (suc (suc k))))) = c.to

-- the list holds the turns b to e
pub record Kept (c : Course) (b e : ℕ) (ps : List Spot) : Type 0 where
  pub size : b + length ps ≡ suc e
  pub at : (k : ℕ) → k < length ps → point ps k ≡ turn c (b + k)

-- the first turn kept: 0 with a stub below the lower part, 1 with a level run from it, 2 where the column is its part's
pub record First (c : Course) (b : ℕ) : Type 0 where
  pub small : b ≤ 2
  pub stub : b < 1 → c.low < c.from.y
  pub flat : 1 ≤ b → c.low ≡ c.from.y
  pub aside : b < 2 → c.column ≡ c.from.x → ⊥
  pub above : 2 ≤ b → c.column ≡ c.from.x

-- the last turn kept: 5 with a stub above the upper part, 4 with a level run to it, 3 where the column is its part's
pub record Last (c : Course) (e : ℕ) : Type 0 where
  pub small : e ≤ 5
  pub large : 3 ≤ e
  pub stub : 5 ≤ e → c.to.y < c.high
  pub flat : e < 5 → c.high ≡ c.to.y
  pub aside : 4 ≤ e → c.column ≡ c.to.x → ⊥
  pub below : e < 4 → c.column ≡ c.to.x

pub record Drawn (c : Course) (ps : List Spot) : Type 0 where
  pub b : ℕ
  pub e : ℕ
  pub kept : Kept c b e ps
  pub first : First c b
  pub last : Last c e

kept_one : (c : Course) (e : ℕ) (p : Spot) → p ≡ turn c e → Kept c e e (p ∷ [])
unfolding point
kept_one c e p h = record { size = omega arith; at = at }
  where
    at : (k : ℕ) → k < 1 → point (p ∷ []) k ≡ turn c (e + k)
    at zero l = rw add-zero h
    at (suc k) l = absurd (omega arith)

kept_cons : (c : Course) (b e : ℕ) (ps : List Spot) → Kept c (suc b) e ps → Kept c b e (turn c b ∷ ps)
unfolding point
kept_cons c b e ps K = record { size = omega (arith, K.size); at = at }
  where
    at : (k : ℕ) → k < suc (length ps) → point (turn c b ∷ ps) k ≡ turn c (b + k)
    at zero l = rw add-zero refl
    at (suc k) l = let q : b + suc k ≡ suc b + k = omega arith in rw q (K.at k (omega arith))

upper_turns :
    (c : Course) → Proper c → (e : ℕ) × Kept c 3 e (drop_repeats (turn c 3 ∷ turn c 4 ∷ turn c 5 ∷ [])) × Last c e
unfolding drop_repeats
upper_turns c P = go (dec_lt c.to.y c.high) (ℕ_discrete c.column c.to.x)
  where
    go :
        Dec (c.to.y < c.high) → Dec (c.column ≡ c.to.x)
        → (e : ℕ) × Kept c 3 e (drop_repeats (turn c 3 ∷ turn c 4 ∷ turn c 5 ∷ [])) × Last c e
    go (yes h) (yes g) = absurd (P.climb h g)
    go (yes h) (no g) = (
      5,
      rw (other_column (turn c 3) (turn c 4) g, other_row (turn c 4) (turn c 5) (omega arith))
          (kept_cons c 3 5 _ (kept_cons c 4 5 _ (kept_one c 5 c.to refl))),
      omega arith,
    )
    go (no h) (no g) = (
      4,
      rw (other_column (turn c 3) (turn c 4) g, same_spot_lem (turn c 4) (turn c 5) refl (omega (arith, P.high_ge)))
          (kept_cons c 3 4 _ (kept_one c 4 c.to (spot_path refl (omega (arith, P.high_ge))))),
      omega (arith, P.high_ge),
    )
    go (no h) (yes g) = (
      3,
      rw (same_spot_lem (turn c 3) (turn c 4) g refl, same_spot_lem (turn c 4) (turn c 5) refl (omega (arith, P.high_ge)))
          (kept_one c 3 c.to (spot_path (sym g) (omega (arith, P.high_ge)))),
      omega (arith, P.high_ge),
    )

lower_turns :
    (c : Course) (e : ℕ) (r : List Spot) → Proper c → Kept c 3 e (drop_repeats (turn c 3 ∷ r))
    → (b : ℕ) × Kept c b e (drop_repeats (turn c 0 ∷ turn c 1 ∷ turn c 2 ∷ turn c 3 ∷ r)) × First c b
unfolding drop_repeats
lower_turns c e r P K = go (dec_lt c.low c.from.y) (ℕ_discrete c.column c.from.x)
  where
    up : same_spot (turn c 2) (turn c 3) ≡ false
    up = other_row (turn c 2) (turn c 3) (omega (arith, P.rises, P.low_le, P.high_ge))

    two : Kept c 2 e (drop_repeats (turn c 2 ∷ turn c 3 ∷ r))
    two = rw up (kept_cons c 2 e _ K)

    go :
        Dec (c.low < c.from.y) → Dec (c.column ≡ c.from.x)
        → (b : ℕ) × Kept c b e (drop_repeats (turn c 0 ∷ turn c 1 ∷ turn c 2 ∷ turn c 3 ∷ r)) × First c b
    go (yes h) (yes g) = absurd (P.dip h g)
    go (yes h) (no g) = (
      0,
      rw (other_row (turn c 0) (turn c 1) (omega arith), other_column (turn c 1) (turn c 2) (λ q. g (sym q)))
          (kept_cons c 0 e _ (kept_cons c 1 e _ two)),
      omega arith,
    )
    go (no h) (no g) = (
      1,
      rw (same_spot_lem (turn c 0) (turn c 1) refl (omega (arith, P.low_le)), other_column (turn c 1) (turn c 2) (λ q. g (sym q)))
          (kept_cons c 1 e _ two),
      omega (arith, P.low_le),
    )
    go (no h) (yes g) = (
      2,
      rw (same_spot_lem (turn c 0) (turn c 1) refl (omega (arith, P.low_le)), same_spot_lem (turn c 1) (turn c 2) (sym g) refl) two,
      omega (arith, P.low_le),
    )

pub drawn : (c : Course) → Proper c → Drawn c (points_of c)
unfolding points_of turns
drawn c P =
    let u = upper_turns c P in
    let l = lower_turns c u.0 (turn c 4 ∷ turn c 5 ∷ []) P u.1 in
    record { b = l.0; e = u.0; kept = l.1; first = l.2; last = u.2 }
