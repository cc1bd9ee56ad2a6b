-- Places of a list: a place for each element, and what stands between the first place and the last. Assumes nothing.
use Prim.Native.Nat.{ℕ, suc, ◌-◌, ◌<◌, ◌≤◌}
use native.Mathlib.Omega.{arith}
use mathlib.Core.Path.{◌≡◌, refl, sym, ap, ◌∙◌}
use mathlib.Core.Logic.{◌⊎◌, inl, inr}
use mathlib.Core.List.Memᴰ
use mathlib.Core.List.{List, [], ◌∷◌, ◌++◌, Memᴰ}
use lib.ListN.{length, get_or, take, drop}
use lib.Seq.{take-suc, take_all}

pub mem-place {ℓ} : {A : Type ℓ} {x : A} (l : List A) (d : A) → Memᴰ x l → (k : ℕ) × (k < length l) × (get_or l k d ≡ x)
mem-place [] d m = absurd (Memᴰ.not-nil m)
mem-place {A = A} {x} (y ∷ ys) d m = go (λ n. mem-place ys d n) (Memᴰ.cases_cons m)
  where
    go : (Memᴰ x ys → (k : ℕ) × (k < length ys) × (get_or ys k d ≡ x)) → (x ≡ y) ⊎ Memᴰ x ys → (k : ℕ) × (k < length (y ∷ ys)) × (get_or (y ∷ ys) k d ≡ x)
    go below (inl e) = (0, omega arith, sym e)
    go below (inr n) = let t = below n in (suc t.0, omega (arith, t.1), t.2)

-- all but the last element, and the last
pub take_last {ℓ} : {A : Type ℓ} (l : List A) (k : ℕ) (d : A) → suc k ≡ length l → take k l ++ get_or l k d ∷ [] ≡ l
take_last l k d e = sym (take-suc l k d (omega arith)) ∙ take_all (suc k) l (omega arith)

-- the first element, those between the first and the last, and the last
pub first_between_last {ℓ} :
    {A : Type ℓ} (l : List A) (a z d : A) → 2 ≤ length l → get_or l 0 d ≡ a → ((k : ℕ) → suc k ≡ length l → get_or l k d ≡ z)
    → a ∷ (take (length l - 2) (drop 1 l) ++ z ∷ []) ≡ l
first_between_last [] a z d h e f = absurd (omega arith)
first_between_last (x ∷ []) a z d h e f = absurd (omega arith)
first_between_last {A = A} (x ∷ y ∷ r) a z d h e f =
    let q : suc (suc (length r)) - 2 ≡ length r = omega arith in
    let g : get_or (y ∷ r) (length r) d ≡ z = f (suc (length r)) refl in
    rw (← e, q, ← g) (ap {B = List A} (λ t. x ∷ t) (take_last (y ∷ r) (length r) d refl))
