-- A list with one element moved to its end: the same elements, that one last, the others in their sequence. Assumes nothing.
use Prim.Native.Nat.{ℕ, suc, ◌+◌, ◌<◌, ◌≤◌}
use native.Mathlib.Omega.{arith}
use mathlib.Core.Path.{◌≡◌, refl, sym, ap, ap₂, subst, ◌∙◌}
use mathlib.Core.Logic.{◌⊎◌, ⊎_elim}
use mathlib.Core.Bool.{Bool, true, false, not}
use mathlib.Core.List.{List, [], ◌∷◌, ◌++◌, Memᴰ}
use lib.ListN.{length, get_or, length-append, get_or-append}
use lib.Seq.{get_or_at}
use lib.Dec.{eqb}
use borrow.Author.Tests.{eqb-true, eq-eqb, ne_eqb}
use Rattle.lists.specs.Select.{filter, cons_if, without, index_of, lastly}
use Rattle.lists.proofs.Bools.{not_e}
use Rattle.lists.proofs.Select.{filter_e, filter_i, Distinct, distinct_filter, index_of_get_d}
use Rattle.lists.proofs.Filters.{without_absent}
use Rattle.lists.proofs.Sort.{Rising, rising_places}
use Rattle.lists.proofs.Sets.{length_without, rising_without}

-- The elements

pub lastly_e : {y : ℕ} (x : ℕ) (l : List ℕ) → Memᴰ y (lastly x l) → Memᴰ y l
unfolding lastly without
lastly_e {y} x l m =
    ⊎_elim
    (λ (a : Memᴰ y (filter (λ z. not (eqb x z)) l)). (filter_e (λ z. not (eqb x z)) l a).0)
    (λ (b : Memᴰ y (filter (eqb x) l)). (filter_e (eqb x) l b).0)
    (mathlib.Core.List.Memᴰ.append_cases (filter (λ z. not (eqb x z)) l) m)

pub lastly_i : {y : ℕ} (x : ℕ) (l : List ℕ) → Memᴰ y l → Memᴰ y (lastly x l)
unfolding lastly without
lastly_i {y} x l m = go (eqb x y) refl
  where
    go : (b : Bool) → eqb x y ≡ b → Memᴰ y (filter (λ z. not (eqb x z)) l ++ filter (eqb x) l)
    go true e = mathlib.Core.List.Memᴰ.append_right (filter (λ z. not (eqb x z)) l) (filter_i (eqb x) l m e)
    go false e = mathlib.Core.List.Memᴰ.append_left (filter (eqb x) l) (filter_i (λ z. not (eqb x z)) l m (rw e refl))

-- what passes a test and what does not are all
length_parted : (p : ℕ → Bool) (l : List ℕ) → length (filter (λ y. not (p y)) l) + length (filter p l) ≡ length l
unfolding filter
length_parted p [] = refl
length_parted p (x ∷ xs) = go (p x) (length_parted p xs)
  where
    go :
        (b : Bool) → length (filter (λ y. not (p y)) xs) + length (filter p xs) ≡ length xs
        → length (cons_if (not b) x (filter (λ y. not (p y)) xs)) + length (cons_if b x (filter p xs)) ≡ suc (length xs)
    go true e = omega arith
    go false e = omega arith

pub length_lastly : (x : ℕ) (l : List ℕ) → length (lastly x l) ≡ length l
unfolding lastly without
length_lastly x l = length-append (filter (λ y. not (eqb x y)) l) (filter (eqb x) l) ∙ length_parted (eqb x) l

distinct_append : (a b : List ℕ) → Distinct a → Distinct b → ((y : ℕ) → Memᴰ y a → Memᴰ y b → ⊥) → Distinct (a ++ b)
distinct_append [] b u v n = v
distinct_append (x ∷ a) b u v n = (
  λ m. ⊎_elim u.0 (n x (mathlib.Core.List.Memᴰ.head refl)) (mathlib.Core.List.Memᴰ.append_cases a m),
  distinct_append a b u.1 v (λ y m. n y (mathlib.Core.List.Memᴰ.tail m)),
)

pub distinct_lastly : (x : ℕ) (l : List ℕ) → Distinct l → Distinct (lastly x l)
unfolding lastly without
distinct_lastly x l u =
    distinct_append (filter (λ y. not (eqb x y)) l) (filter (eqb x) l) (distinct_filter (λ y. not (eqb x y)) l u) (distinct_filter (eqb x) l u)
    (λ y m n. not_e (eqb x y) (filter_e (λ z. not (eqb x z)) l m).1 (filter_e (eqb x) l n).1)

-- The one that is moved

-- distinct elements that all equal x are x alone
only : (x : ℕ) (b : List ℕ) → Distinct b → ((y : ℕ) → Memᴰ y b → x ≡ y) → Memᴰ x b → b ≡ x ∷ []
only x [] u a m = absurd (mathlib.Core.List.Memᴰ.not-nil m)
only x (y ∷ []) u a m = ap (λ (z : ℕ). z ∷ []) (sym (a y (mathlib.Core.List.Memᴰ.head refl)))
only x (y ∷ z ∷ b) u a m =
    absurd (u.0 (mathlib.Core.List.Memᴰ.head (sym (a y (mathlib.Core.List.Memᴰ.head refl)) ∙ a z (mathlib.Core.List.Memᴰ.tail (mathlib.Core.List.Memᴰ.head refl)))))

alone : (x : ℕ) (l : List ℕ) → Distinct l → Memᴰ x l → filter (eqb x) l ≡ x ∷ []
alone x l u m =
    only x (filter (eqb x) l) (distinct_filter (eqb x) l u) (λ y n. eqb-true x y (filter_e (eqb x) l n).1) (filter_i (eqb x) l m (eq-eqb x x refl))

-- it is last
pub lastly_last : (x : ℕ) (l : List ℕ) → Distinct l → Memᴰ x l → suc (index_of x (lastly x l)) ≡ length l
unfolding lastly
lastly_last x l u m =
    let k : ℕ = length (without x l) in
    let there : get_or (lastly x l) k 0 ≡ x = ap (λ (b : List ℕ). get_or (without x l ++ b) k 0) (alone x l u m) ∙ get_or_at (without x l) x [] 0 k refl in
    let place : index_of (get_or (lastly x l) k 0) (lastly x l) ≡ k =
    index_of_get_d (lastly x l) k 0 (distinct_lastly x l u) (omega (arith, length_lastly x l, length_without l u m)) in
    omega (arith, sym (ap (λ (y : ℕ). index_of y (lastly x l)) there) ∙ place, length_without l u m)

-- The others

-- those before the one that is moved rise as they did
pub lastly_rises :
    (key : ℕ → ℕ) (x : ℕ) (l : List ℕ) → Rising key l → (a b : ℕ) → a ≤ b → b < length (without x l)
    → key (get_or (lastly x l) a 0) ≤ key (get_or (lastly x l) b 0)
unfolding lastly without
lastly_rises key x l r a b h g =
    let rest : List ℕ = filter (λ y. not (eqb x y)) l in
    let e : get_or (rest ++ filter (eqb x) l) a 0 ≡ get_or rest a 0 = get_or-append rest (filter (eqb x) l) 0 a (omega arith) in
    let f : get_or (rest ++ filter (eqb x) l) b 0 ≡ get_or rest b 0 = get_or-append rest (filter (eqb x) l) 0 b g in
    omega (arith, ap key e, ap key f, rising_places key rest (rising_without key x l r) a b 0 h g)

-- at most one is moved, and none where x is not in the list
pub without_most : (x : ℕ) (l : List ℕ) → Distinct l → length l ≤ suc (length (without x l))
unfolding without
without_most x l u = go (filter (eqb x) l) refl
  where
    go : (b : List ℕ) → filter (eqb x) l ≡ b → length l ≤ suc (length (filter (λ y. not (eqb x y)) l))
    go [] e = omega (arith, length_parted (eqb x) l, ap length e)
    go (y ∷ b) e =
        let m : Memᴰ y (filter (eqb x) l) = subst (λ (z : List ℕ). Memᴰ y z) (sym e) (mathlib.Core.List.Memᴰ.head refl) in
        let f = filter_e (eqb x) l m in
        let q : y ≡ x = sym (eqb-true x y f.1) in
        omega (arith, length_parted (eqb x) l, ap length (alone x l u (subst (λ (z : ℕ). Memᴰ z l) q f.0)))

-- By the list's first element

pub lastly_skips : (x y : ℕ) (l : List ℕ) → (x ≡ y → ⊥) → lastly x (y ∷ l) ≡ y ∷ lastly x l
unfolding lastly without filter
lastly_skips x y l n = rw (ne_eqb x y n)

-- a list without x is kept as it is
pub lastly_absent : (x : ℕ) (l : List ℕ) → (Memᴰ x l → ⊥) → lastly x l ≡ l
unfolding lastly without filter
lastly_absent x [] n = refl
lastly_absent x (y ∷ ys) n = lastly_skips x y ys (λ e. n (mathlib.Core.List.Memᴰ.head e)) ∙ ap (λ (l : List ℕ). y ∷ l) (lastly_absent x ys (λ m. n (mathlib.Core.List.Memᴰ.tail m)))

none_alike : (x : ℕ) (l : List ℕ) → (Memᴰ x l → ⊥) → filter (eqb x) l ≡ []
unfolding filter
none_alike x [] n = refl
none_alike x (y ∷ ys) n = rw (ne_eqb x y (λ e. n (mathlib.Core.List.Memᴰ.head e))) (none_alike x ys (λ m. n (mathlib.Core.List.Memᴰ.tail m)))

-- x is first, and nowhere else
pub lastly_first : (x y : ℕ) (l : List ℕ) → x ≡ y → (Memᴰ x l → ⊥) → lastly x (y ∷ l) ≡ l ++ y ∷ []
unfolding lastly without filter
lastly_first x y l e n =
    rw (eq-eqb x y e) (ap₂ (λ (a b : List ℕ). a ++ y ∷ b) (without_absent x l n) (none_alike x l n))
