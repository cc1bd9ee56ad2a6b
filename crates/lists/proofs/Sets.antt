-- Laws of lists as sets: membership, removal, some element passes, counts of a smaller set, numbers by rising value. Assumes nothing.
use Prim.Native.Nat.{ℕ, zero, suc, ◌+◌, ◌<◌, ◌≤◌}
use native.Mathlib.Omega.{arith}
use native.Mathlib.Decide.{ℕ_discrete}
use mathlib.Core.Path.{◌≡◌, refl, sym, ap, ◌∙◌}
use mathlib.Core.Logic.{◌⊎◌, inl, inr}
use mathlib.Core.Bool.{Bool, true, false, not, ◌||◌, false≢true}
use mathlib.Core.List.{List, [], ◌∷◌, Memᴰ}
use lib.ListN.{length}
use lib.Dec.{eqb}
use borrow.Author.Tests.{eqb-true, eqb-false, eq-eqb, ne_eqb, not-true}
use Rattle.lists.specs.Select.{up_from, range, member, any, cons_if, filter, one_if, count, without}
use Rattle.lists.proofs.Bools.{or_e, or_right}
use Rattle.lists.proofs.Select.{up_from_e, filter_e, filter_i, Distinct, distinct_filter}
use Rattle.lists.proofs.Sort.{Rising}

-- Membership

pub member_e : (x : ℕ) (l : List ℕ) → member x l ≡ true → Memᴰ x l
unfolding member
member_e x [] e = absurd (false≢true e)
member_e x (y ∷ ys) e = go (λ h. member_e x ys h) (or_e (eqb x y) (member x ys) e)
  where
    go : (member x ys ≡ true → Memᴰ x ys) → (eqb x y ≡ true) ⊎ (member x ys ≡ true) → Memᴰ x (y ∷ ys)
    go below (inl h) = mathlib.Core.List.Memᴰ.head (eqb-true x y h)
    go below (inr h) = mathlib.Core.List.Memᴰ.tail (below h)

pub member_i : {x : ℕ} (l : List ℕ) → Memᴰ x l → member x l ≡ true
unfolding member
member_i [] m = absurd (mathlib.Core.List.Memᴰ.not-nil m)
member_i {x} (y ∷ ys) m = go (λ h. member_i ys h) (mathlib.Core.List.Memᴰ.cases_cons m)
  where
    go : (Memᴰ x ys → member x ys ≡ true) → (x ≡ y) ⊎ Memᴰ x ys → (eqb x y || member x ys) ≡ true
    go below (inl e) = rw (eq-eqb x y e) refl
    go below (inr h) = or_right (eqb x y) (member x ys) (below h)

pub dec_mem : (x : ℕ) (l : List ℕ) → Dec (Memᴰ x l)
dec_mem x l = go (member x l) refl
  where
    go : (b : Bool) → member x l ≡ b → Dec (Memᴰ x l)
    go true e = yes (member_e x l e)
    go false e = no (λ m. false≢true (sym e ∙ member_i l m))

pub member_absent : (x : ℕ) (l : List ℕ) → (Memᴰ x l → ⊥) → member x l ≡ false
member_absent x l n = go (member x l) refl
  where
    go : (b : Bool) → member x l ≡ b → member x l ≡ false
    go true e = absurd (n (member_e x l e))
    go false e = e

-- Removal

pub without_e : {y : ℕ} (x : ℕ) (l : List ℕ) → Memᴰ y (without x l) → Memᴰ y l × (y ≡ x → ⊥)
unfolding without
without_e {y} x l m =
    let f : Memᴰ y l × (not (eqb x y) ≡ true) = filter_e (λ z. not (eqb x z)) l m in
    (f.0, λ e. eqb-false x y (not-true (eqb x y) f.1) (sym e))

pub without_i : {y : ℕ} (x : ℕ) (l : List ℕ) → Memᴰ y l → (y ≡ x → ⊥) → Memᴰ y (without x l)
unfolding without
without_i {y} x l m n = filter_i (λ z. not (eqb x z)) l m (ap not (ne_eqb x y (λ e. n (sym e))))

pub length_without_absent : (x : ℕ) (l : List ℕ) → (Memᴰ x l → ⊥) → length (without x l) ≡ length l
unfolding without filter
length_without_absent x [] n = refl
length_without_absent x (y ∷ ys) n =
    rw (ne_eqb x y (λ e. n (mathlib.Core.List.Memᴰ.head e))) (ap suc (length_without_absent x ys (λ m. n (mathlib.Core.List.Memᴰ.tail m))))

pub length_without : {x : ℕ} (l : List ℕ) → Distinct l → Memᴰ x l → suc (length (without x l)) ≡ length l
unfolding without filter
length_without [] u m = absurd (mathlib.Core.List.Memᴰ.not-nil m)
length_without {x} (y ∷ ys) u m = go (ℕ_discrete x y) (λ h. length_without ys u.1 h) (mathlib.Core.List.Memᴰ.cases_cons m)
  where
    go : Dec (x ≡ y) → (Memᴰ x ys → suc (length (without x ys)) ≡ length ys) → (x ≡ y) ⊎ Memᴰ x ys
        → suc (length (cons_if (not (eqb x y)) y (without x ys))) ≡ suc (length ys)
    go (yes e) below h = rw (eq-eqb x y e) (ap suc (length_without_absent x ys (λ k. u.0 (mathlib.Core.List.Memᴰ.cast (sym e) k))))
    go (no n) below (inl e) = absurd (n e)
    go (no n) below (inr h) = rw (ne_eqb x y n) (ap suc (below h))

pub distinct_without : (x : ℕ) (l : List ℕ) → Distinct l → Distinct (without x l)
unfolding without
distinct_without x l u = distinct_filter (λ y. not (eqb x y)) l u

-- a list with an element is not empty
pub length_mem : {A : Type 0} {x : A} {l : List A} → Memᴰ x l → 0 < length l
length_mem (mathlib.Core.List.Memᴰ.head e) = omega arith
length_mem (mathlib.Core.List.Memᴰ.tail m) = omega arith

-- a list of one element that is not repeated
pub length_only : {x : ℕ} (l : List ℕ) → Distinct l → ((y : ℕ) → Memᴰ y l → y ≡ x) → Memᴰ x l → length l ≡ 1
length_only [] u a m = absurd (mathlib.Core.List.Memᴰ.not-nil m)
length_only (y ∷ []) u a m = refl
length_only (y ∷ z ∷ l) u a m =
    absurd (u.0 (mathlib.Core.List.Memᴰ.head (a y (mathlib.Core.List.Memᴰ.head refl) ∙ sym (a z (mathlib.Core.List.Memᴰ.tail (mathlib.Core.List.Memᴰ.head refl))))))

-- Some element passes

module _ {A : Type 0} (p : A → Bool) where
  pub any_e : (l : List A) → any p l ≡ true → (x : A) × Memᴰ x l × (p x ≡ true)
  unfolding any
  any_e [] e = absurd (false≢true e)
  any_e (y ∷ ys) e = go (λ h. any_e ys h) (or_e (p y) (any p ys) e)
    where
      go : (any p ys ≡ true → (x : A) × Memᴰ x ys × (p x ≡ true)) → (p y ≡ true) ⊎ (any p ys ≡ true) → (x : A) × Memᴰ x (y ∷ ys) × (p x ≡ true)
      go below (inl h) = (y, mathlib.Core.List.Memᴰ.head refl, h)
      go below (inr h) = ((below h).0, mathlib.Core.List.Memᴰ.tail (below h).1, (below h).2)

  pub any_i : {x : A} (l : List A) → Memᴰ x l → p x ≡ true → any p l ≡ true
  unfolding any
  any_i [] m h = absurd (mathlib.Core.List.Memᴰ.not-nil m)
  any_i {x} (y ∷ ys) m h = go (λ k. any_i ys k h) (mathlib.Core.List.Memᴰ.cases_cons m)
    where
      go : (Memᴰ x ys → any p ys ≡ true) → (x ≡ y) ⊎ Memᴰ x ys → (p y || any p ys) ≡ true
      go below (inl e) = rw (sym (ap p e) ∙ h) refl
      go below (inr k) = or_right (p y) (any p ys) (below k)

-- Counts

module _ {A : Type 0} (p q : A → Bool) (sub : (x : A) → p x ≡ true → q x ≡ true) where
  one_le : (x : A) → one_if (p x) ≤ one_if (q x)
  one_le x = go (p x) refl
    where
      go : (b : Bool) → p x ≡ b → one_if b ≤ one_if (q x)
      go true e = rw (sub x e) (omega arith)
      go false e = omega arith

  pub count_le : (l : List A) → count p l ≤ count q l
  unfolding count
  count_le [] = omega arith
  count_le (x ∷ xs) = omega (arith, one_le x, count_le xs)

  -- an element that passes only the wider test makes the count less
  pub count_less : {w : A} (l : List A) → Memᴰ w l → p w ≡ false → q w ≡ true → count p l < count q l
  unfolding count
  count_less [] m a b = absurd (mathlib.Core.List.Memᴰ.not-nil m)
  count_less {w} (x ∷ xs) m a b = go (λ k. count_less xs k a b) (mathlib.Core.List.Memᴰ.cases_cons m)
    where
      go : (Memᴰ w xs → count p xs < count q xs) → (w ≡ x) ⊎ Memᴰ w xs → one_if (p x) + count p xs < one_if (q x) + count q xs
      go below (inl e) = rw (sym (ap p e) ∙ a, sym (ap q e) ∙ b) (omega (arith, count_le xs))
      go below (inr k) = omega (arith, one_le x, below k)

-- Rising lists

pub rising_filter : (key : ℕ → ℕ) (p : ℕ → Bool) (l : List ℕ) → Rising key l → Rising key (filter p l)
unfolding filter
rising_filter key p [] r = tt
rising_filter key p (y ∷ ys) r = go (p y) (rising_filter key p ys r.1)
  where
    go : (b : Bool) → Rising key (filter p ys) → Rising key (cons_if b y (filter p ys))
    go true v = (λ z m. r.0 z (filter_e p ys m).0, v)
    go false v = v

rising_up_from : (i k : ℕ) → Rising (λ x. x) (up_from i k)
unfolding up_from
rising_up_from i zero = tt
rising_up_from i (suc k) = (λ y m. omega (arith, up_from_e (i + 1) k m), rising_up_from (i + 1) k)

pub rising_range : (n : ℕ) → Rising (λ x. x) (range n)
unfolding range
rising_range n = rising_up_from 0 n

pub rising_without : (key : ℕ → ℕ) (x : ℕ) (l : List ℕ) → Rising key l → Rising key (without x l)
unfolding without
rising_without key x l r = rising_filter key (λ y. not (eqb x y)) l r
