-- The points of one course: which of its six turns remain once repeats are dropped, and how many corners these are. Assumes nothing.
use Prim.Native.Nat.{ℕ, suc, ◌+◌, ◌-◌, ◌≤◌}
use mathlib.Core.Path.{◌≡◌, refl, sym, ◌∙◌, ap, subst}
use mathlib.Core.Logic.{◌⊎◌, inl, inr, ⊎_elim}
use mathlib.Core.Bool.{Bool, true, false, not, and-true}
use mathlib.Core.List.Memᴰ
use mathlib.Core.List.{List, [], ◌∷◌, ◌++◌, Memᴰ}
use native.Mathlib.Omega.{arith}
use lib.Dec.{eqb}
use lib.ListN.{length, drop, length-take, length-drop, length-append}
use lib.Seq.{take_at}
use borrow.Author.Tests.{eq-eqb, ne_eqb}
use Rattle.lists.specs.Select.{one_if, cons_if}
use Rattle.lists.proofs.Tests.{eqb_sym}
use Rattle.geometry.specs.Spots.{Spot, same_spot}
use Rattle.geometry.proofs.Spots.{same_spot_e}
use Rattle.layout.specs.Points.{Course, turns, drop_repeats, points_of, inner, corners_of}

-- Equal spots

pub same_column : (x y z : ℕ) → same_spot (record { x = x; y = y }) (record { x = x; y = z }) ≡ eqb y z
unfolding same_spot
same_column x y z = rw (eq-eqb x x refl) refl

pub same_row : (x y z : ℕ) → same_spot (record { x = x; y = z }) (record { x = y; y = z }) ≡ eqb x y
unfolding same_spot
same_row x y z = rw (eq-eqb z z refl) (and-true (eqb x y))

-- Dropping repeats keeps exactly the spots that there were.

pub repeats_e : {s : Spot} (l : List Spot) → Memᴰ s (drop_repeats l) → Memᴰ s l
unfolding drop_repeats
repeats_e [] h = h
repeats_e (p ∷ []) h = h
repeats_e {s} (p ∷ q ∷ r) h = go (not (same_spot p q)) h (λ g. repeats_e (q ∷ r) g)
  where
    go : (b : Bool) → Memᴰ s (cons_if b p (drop_repeats (q ∷ r))) → (Memᴰ s (drop_repeats (q ∷ r)) → Memᴰ s (q ∷ r)) → Memᴰ s (p ∷ q ∷ r)
    go true g below = ⊎_elim (λ (e : s ≡ p). Memᴰ.head e) (λ (g' : Memᴰ s (drop_repeats (q ∷ r))). Memᴰ.tail (below g')) (Memᴰ.cases_cons g)
    go false g below = Memᴰ.tail (below g)

pub repeats_i : {s : Spot} (l : List Spot) → Memᴰ s l → Memᴰ s (drop_repeats l)
unfolding drop_repeats
repeats_i [] h = h
repeats_i (p ∷ []) h = h
repeats_i {s} (p ∷ q ∷ r) h = go (same_spot p q) refl (Memᴰ.cases_cons h) (λ g. repeats_i (q ∷ r) g)
  where
    go :
        (b : Bool) → same_spot p q ≡ b → (s ≡ p) ⊎ Memᴰ s (q ∷ r) → (Memᴰ s (q ∷ r) → Memᴰ s (drop_repeats (q ∷ r)))
        → Memᴰ s (cons_if (not b) p (drop_repeats (q ∷ r)))
    go true e (inl f) below = below (Memᴰ.head (f ∙ same_spot_e p q e))
    go true e (inr g) below = below g
    go false e (inl f) below = Memᴰ.head f
    go false e (inr g) below = Memᴰ.tail (below g)

length_repeats : (p q : Spot) (r : List Spot) → length (drop_repeats (p ∷ q ∷ r)) ≡ one_if (not (same_spot p q)) + length (drop_repeats (q ∷ r))
unfolding drop_repeats
length_repeats p q r = go (not (same_spot p q))
  where
    go : (b : Bool) → length (cons_if b p (drop_repeats (q ∷ r))) ≡ one_if b + length (drop_repeats (q ∷ r))
    go true = omega arith
    go false = omega arith

length_repeats_one : (p : Spot) → length (drop_repeats (p ∷ [])) ≡ 1
unfolding drop_repeats
length_repeats_one p = refl

-- The points of a course

-- every point is one of the six turns
pub points_turns : {s : Spot} (c : Course) → Memᴰ s (points_of c) → Memᴰ s (turns c)
unfolding points_of
points_turns c h = repeats_e (turns c) h

pub turns_points : {s : Spot} (c : Course) → Memᴰ s (turns c) → Memᴰ s (points_of c)
unfolding points_of
turns_points c h = repeats_i (turns c) h

-- what holds of the six turns holds of each point
pub points_all :
    (Q : Spot → Type 0) (c : Course) → Q c.from → Q (record { x = c.from.x; y = c.low }) → Q (record { x = c.column; y = c.low })
    → Q (record { x = c.column; y = c.high }) → Q (record { x = c.to.x; y = c.high }) → Q c.to → (s : Spot) → Memᴰ s (points_of c) → Q s
unfolding turns
points_all Q c q₀ q₁ q₂ q₃ q₄ q₅ s h =
    one q₀ (one q₁ (one q₂ (one q₃ (one q₄ (one q₅ (λ g. absurd (Memᴰ.not-nil g))))))) (points_turns c h)
  where
    one : {p : Spot} {l : List Spot} → Q p → (Memᴰ s l → Q s) → Memᴰ s (p ∷ l) → Q s
    one q rest g = ⊎_elim (λ e. subst Q (sym e) q) rest (Memᴰ.cases_cons g)

-- The first and the last point are the parts' spots, and what stands between them are the corners.

pub repeats_first : (p : Spot) (l : List Spot) → (r : List Spot) × (drop_repeats (p ∷ l) ≡ p ∷ r)
unfolding drop_repeats
repeats_first p [] = ([], refl)
repeats_first p (q ∷ l) = go (same_spot p q) refl (repeats_first q l)
  where
    go :
        (b : Bool) → same_spot p q ≡ b → (r : List Spot) × (drop_repeats (q ∷ l) ≡ q ∷ r)
        → (r : List Spot) × (cons_if (not b) p (drop_repeats (q ∷ l)) ≡ p ∷ r)
    go true e (r, f) = (r, f ∙ ap (λ (z : Spot). z ∷ r) (sym (same_spot_e p q e)))
    go false e f = (drop_repeats (q ∷ l), refl)

repeats_last : (l : List Spot) (t : Spot) → (r : List Spot) × (drop_repeats (l ++ t ∷ []) ≡ r ++ t ∷ [])
unfolding drop_repeats
repeats_last [] t = ([], refl)
repeats_last (p ∷ []) t = go (not (same_spot p t))
  where
    go : (b : Bool) → (r : List Spot) × (cons_if b p (t ∷ []) ≡ r ++ t ∷ [])
    go true = (p ∷ [], refl)
    go false = ([], refl)
repeats_last (p ∷ q ∷ l) t = go (not (same_spot p q)) (repeats_last (q ∷ l) t)
  where
    go :
        (b : Bool) → (r : List Spot) × (drop_repeats (q ∷ l ++ t ∷ []) ≡ r ++ t ∷ [])
        → (r : List Spot) × (cons_if b p (drop_repeats (q ∷ l ++ t ∷ [])) ≡ r ++ t ∷ [])
    go true (r, f) = (p ∷ r, ap (λ (z : List Spot). p ∷ z) f)
    go false f = f

-- a list of two or more between its first and its last
split_inner : (p t : Spot) (l a b : List Spot) → l ≡ p ∷ a → l ≡ b ++ t ∷ [] → 2 ≤ length l → l ≡ p ∷ (inner l ++ t ∷ [])
unfolding inner
split_inner p t l a [] e f h = absurd (omega (arith, ap length f))
split_inner p t l a (q ∷ b) e f h =
    let s : q ≡ p = cc in
    let g : l ≡ p ∷ (b ++ t ∷ []) = f ∙ ap (λ (z : Spot). z ∷ (b ++ t ∷ [])) s in
    let k : inner l ≡ b = ap inner g ∙ take_at b (t ∷ []) (suc (length (b ++ t ∷ [])) - 2) (omega (arith, length-append b (t ∷ []))) in
    g ∙ ap (λ (z : List Spot). p ∷ (z ++ t ∷ [])) (sym k)

-- 1 where the two differ
abbrev pub differs : ℕ → ℕ → ℕ
differs a b = one_if (not (eqb a b))

unlike : {a b : Bool} → a ≡ b → one_if (not a) ≡ one_if (not b)
unlike e = ap (λ (t : Bool). one_if (not t)) e

six :
    {l₀ l₁ l₂ l₃ l₄ l₅ a₀ a₁ a₂ a₃ a₄ b₀ b₁ b₃ b₄ : ℕ}
    → l₀ ≡ a₀ + l₁ → l₁ ≡ a₁ + l₂ → l₂ ≡ a₂ + l₃ → l₃ ≡ a₃ + l₄ → l₄ ≡ a₄ + l₅ → l₅ ≡ 1
    → a₀ ≡ b₀ → a₁ ≡ b₁ → a₂ ≡ 1 → a₃ ≡ b₃ → a₄ ≡ b₄ → l₀ ≡ 2 + (b₁ + b₃ + b₀ + b₄)
six e₀ e₁ e₂ e₃ e₄ e₅ d₀ d₁ d₂ d₃ d₄ = omega arith

pub length_points :
    (c : Course) → (c.low ≡ c.high → ⊥)
    → length (points_of c) ≡ 2 + (differs c.column c.from.x + differs c.column c.to.x + differs c.low c.from.y + differs c.high c.to.y)
unfolding points_of turns
length_points c n =
    let p₁ : Spot = record { x = c.from.x; y = c.low } in
    let p₂ : Spot = record { x = c.column; y = c.low } in
    let p₃ : Spot = record { x = c.column; y = c.high } in
    let p₄ : Spot = record { x = c.to.x; y = c.high } in
    let d₀ : one_if (not (same_spot c.from p₁)) ≡ differs c.low c.from.y = unlike (same_column c.from.x c.from.y c.low ∙ eqb_sym c.from.y c.low) in
    let d₁ : one_if (not (same_spot p₁ p₂)) ≡ differs c.column c.from.x = unlike (same_row c.from.x c.column c.low ∙ eqb_sym c.from.x c.column) in
    let d₂ : one_if (not (same_spot p₂ p₃)) ≡ 1 = unlike (same_column c.column c.low c.high ∙ ne_eqb c.low c.high n) in
    let d₃ : one_if (not (same_spot p₃ p₄)) ≡ differs c.column c.to.x = unlike (same_row c.column c.to.x c.high) in
    let d₄ : one_if (not (same_spot p₄ c.to)) ≡ differs c.high c.to.y = unlike (same_column c.to.x c.high c.to.y) in
    six (length_repeats c.from p₁ (p₂ ∷ p₃ ∷ p₄ ∷ c.to ∷ [])) (length_repeats p₁ p₂ (p₃ ∷ p₄ ∷ c.to ∷ [])) (length_repeats p₂ p₃ (p₄ ∷ c.to ∷ []))
    (length_repeats p₃ p₄ (c.to ∷ [])) (length_repeats p₄ c.to []) (length_repeats_one c.to) d₀ d₁ d₂ d₃ d₄

pub points_split : (c : Course) → (c.low ≡ c.high → ⊥) → points_of c ≡ c.from ∷ (corners_of c ++ c.to ∷ [])
unfolding points_of corners_of turns
points_split c n =
    let p₁ : Spot = record { x = c.from.x; y = c.low } in
    let p₂ : Spot = record { x = c.column; y = c.low } in
    let p₃ : Spot = record { x = c.column; y = c.high } in
    let p₄ : Spot = record { x = c.to.x; y = c.high } in
    let a = repeats_first c.from (p₁ ∷ p₂ ∷ p₃ ∷ p₄ ∷ c.to ∷ []) in
    let b = repeats_last (c.from ∷ p₁ ∷ p₂ ∷ p₃ ∷ p₄ ∷ []) c.to in
    split_inner c.from c.to (points_of c) a.0 b.0 a.1 b.1 (omega (arith, length_points c n))

pub length_corners :
    (c : Course) → (c.low ≡ c.high → ⊥)
    → length (corners_of c) ≡ differs c.column c.from.x + differs c.column c.to.x + differs c.low c.from.y + differs c.high c.to.y
unfolding corners_of inner
length_corners c n =
    omega (arith, length-take (length (points_of c) - 2) (drop 1 (points_of c)), length-drop 1 (points_of c), length_points c n)
