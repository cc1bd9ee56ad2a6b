-- Laws of `any` by place: an element passes exactly if one at some place does. Assumes nothing.
use Prim.Native.Nat.{ℕ, zero, suc, ◌+◌, ◌<◌, ◌≤◌}
use native.Mathlib.Omega.{arith}
use native.Mathlib.Decide.{ℕ_discrete}
use mathlib.Core.Path.{◌≡◌, sym, ap, ◌∙◌}
use mathlib.Core.Bool.{Bool, true, true≢false}
use mathlib.Core.Logic.{◌⊎◌, inl, inr}
use mathlib.Core.List.{List, [], ◌∷◌}
use lib.ListN.{length, get_or}
use Rattle.lists.specs.Select.{any, up_from, range}
use Rattle.lists.proofs.Bools.{or_e, or_left, or_right}

module _ {A : Type 0} (p : A → Bool) (d : A) where
  pub any_at_e : (l : List A) → any p l ≡ true → (k : ℕ) × (k < length l) × (p (get_or l k d) ≡ true)
  unfolding any
  any_at_e [] h = absurd (true≢false (sym h))
  any_at_e (x ∷ xs) h = go (any_at_e xs) (or_e (p x) (any p xs) h)
    where
      go :
          (any p xs ≡ true → (k : ℕ) × (k < length xs) × (p (get_or xs k d) ≡ true)) → (p x ≡ true) ⊎ (any p xs ≡ true)
          → (k : ℕ) × (k < suc (length xs)) × (p (get_or (x ∷ xs) k d) ≡ true)
      go f (inl e) = (0, omega arith, e)
      go f (inr e) = let r = f e in (suc r.0, omega (arith, r.1), r.2)

  pub any_at_i : (l : List A) (k : ℕ) → k < length l → p (get_or l k d) ≡ true → any p l ≡ true
  unfolding any
  any_at_i [] k l h = absurd (omega arith)
  any_at_i (x ∷ xs) zero l h = or_left (p x) (any p xs) h
  any_at_i (x ∷ xs) (suc k) l h = or_right (p x) (any p xs) (any_at_i xs k (omega arith) h)

module _ (p : ℕ → Bool) where
  any_up_e : (i n : ℕ) → any p (up_from i n) ≡ true → (k : ℕ) × (i ≤ k) × (k < i + n) × (p k ≡ true)
  unfolding any up_from
  any_up_e i zero h = absurd (true≢false (sym h))
  any_up_e i (suc n) h = go (any_up_e (i + 1) n) (or_e (p i) (any p (up_from (i + 1) n)) h)
    where
      go :
          (any p (up_from (i + 1) n) ≡ true → (k : ℕ) × (i + 1 ≤ k) × (k < i + 1 + n) × (p k ≡ true))
          → (p i ≡ true) ⊎ (any p (up_from (i + 1) n) ≡ true) → (k : ℕ) × (i ≤ k) × (k < i + suc n) × (p k ≡ true)
      go f (inl e) = (i, omega arith, omega arith, e)
      go f (inr e) = let r = f e in (r.0, omega (arith, r.1), omega (arith, r.2), r.3)

  any_up_i : (i n k : ℕ) → i ≤ k → k < i + n → p k ≡ true → any p (up_from i n) ≡ true
  unfolding any up_from
  any_up_i i zero k g l h = absurd (omega arith)
  any_up_i i (suc n) k g l h = go (λ q. any_up_i (i + 1) n k q (omega arith) h) (ℕ_discrete k i)
    where
      go : (i + 1 ≤ k → any p (up_from (i + 1) n) ≡ true) → Dec (k ≡ i) → any p (up_from i (suc n)) ≡ true
      go f (yes e) = or_left (p i) (any p (up_from (i + 1) n)) (ap p (sym e) ∙ h)
      go f (no e) = or_right (p i) (any p (up_from (i + 1) n)) (f (omega arith))

  pub any_range_e : (n : ℕ) → any p (range n) ≡ true → (k : ℕ) × (k < n) × (p k ≡ true)
  unfolding range
  any_range_e n h = let r = any_up_e 0 n h in (r.0, omega (arith, r.2), r.3)

  pub any_range_i : (n k : ℕ) → k < n → p k ≡ true → any p (range n) ≡ true
  unfolding range
  any_range_i n k l h = any_up_i 0 n k (omega arith) (omega arith) h
