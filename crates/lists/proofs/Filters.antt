-- Laws of selection: two tests one after the other are both at once, tests that agree select the same and as many, and a search finds the
-- first selected. Assumes nothing.
use Rattle.std.specs.Prelude.{Option, Some, None}
use Prim.Native.Nat.{ℕ, zero, suc, ◌+◌, ◌<◌, ◌≤◌}
use native.Mathlib.Omega.{arith}
use native.Mathlib.Numerals.{add-one}
use mathlib.Core.Path.{◌≡◌, refl, sym, ap, ◌∙◌}
use mathlib.Core.Logic.{◌⊎◌, inl, inr}
use mathlib.Core.Bool.{Bool, true, false, cond, ◌&&◌, false≢true}
use mathlib.Core.List.Memᴰ
use mathlib.Core.List.{List, [], ◌∷◌, Memᴰ}
use lib.ListN.{length, get_or, drop, drop_of_length-le}
use lib.Seq.{drop-cons}
use borrow.Author.Tests.{ne_eqb}
use Rattle.lists.specs.Search.{seek}
use Rattle.lists.specs.Select.{up_from, any, cons_if, filter, one_if, count, without}
use Rattle.lists.proofs.Select.{length_filter}

module _ {A : Type 0} where
  pub filter_same : (p q : A → Bool) (l : List A) → ((x : A) → Memᴰ x l → p x ≡ q x) → filter p l ≡ filter q l
  unfolding filter
  filter_same p q [] h = refl
  filter_same p q (x ∷ xs) h = rw (h x (Memᴰ.head refl), filter_same p q xs (λ y m. h y (Memᴰ.tail m))) refl

  pub count_same : (p q : A → Bool) (l : List A) → ((x : A) → Memᴰ x l → p x ≡ q x) → count p l ≡ count q l
  count_same p q l h = sym (length_filter p l) ∙ ap (λ (k : List A). length k) (filter_same p q l h) ∙ length_filter q l

  pub filter_filter : (p q : A → Bool) (l : List A) → filter p (filter q l) ≡ filter (λ x. q x && p x) l
  unfolding filter
  filter_filter p q [] = refl
  filter_filter p q (x ∷ xs) = go (q x) (filter_filter p q xs)
    where
      go : (b : Bool) → filter p (filter q xs) ≡ filter (λ y. q y && p y) xs → filter p (cons_if b x (filter q xs)) ≡ cons_if (b && p x) x (filter (λ y. q y && p y) xs)
      go true e = ap (cons_if (p x) x) e
      go false e = e

  pub filter_true : (l : List A) → filter (λ x. true) l ≡ l
  unfolding filter
  filter_true [] = refl
  filter_true (x ∷ xs) = ap (λ (l : List A). x ∷ l) (filter_true xs)

  pub length_filter_le : (p : A → Bool) (l : List A) → length (filter p l) ≤ length l
  unfolding filter
  length_filter_le p [] = omega arith
  length_filter_le p (x ∷ xs) = go (p x) (length_filter_le p xs)
    where
      go : (b : Bool) → length (filter p xs) ≤ length xs → length (cons_if b x (filter p xs)) ≤ suc (length xs)
      go true h = omega arith
      go false h = omega arith

module _ {A : Type 0} where
  pub cons_if_e : {x y : A} {l : List A} (b : Bool) → Memᴰ x (cons_if b y l) → ((b ≡ true) × (x ≡ y)) ⊎ Memᴰ x l
  cons_if_e {x} {y} {l} true m = go (Memᴰ.cases_cons m)
    where
      go : (x ≡ y) ⊎ Memᴰ x l → ((true ≡ true) × (x ≡ y)) ⊎ Memᴰ x l
      go (inl e) = inl (refl, e)
      go (inr n) = inr n
  cons_if_e false m = inr m

  pub cons_if_here : {x y : A} (l : List A) (b : Bool) → b ≡ true → x ≡ y → Memᴰ x (cons_if b y l)
  cons_if_here l true e q = Memᴰ.head q
  cons_if_here l false e q = absurd (false≢true e)

  pub cons_if_there : {x : A} {l : List A} (y : A) (b : Bool) → Memᴰ x l → Memᴰ x (cons_if b y l)
  cons_if_there y true m = Memᴰ.tail m
  cons_if_there y false m = m

pub length_cons_if : {A : Type 0} (b : Bool) (x : A) (l : List A) → length (cons_if b x l) ≡ one_if b + length l
length_cons_if true x l = omega arith
length_cons_if false x l = omega arith

pub without_absent : (p : ℕ) (l : List ℕ) → (Memᴰ p l → ⊥) → without p l ≡ l
unfolding without filter
without_absent p [] n = refl
without_absent p (x ∷ xs) n = rw (ne_eqb p x (λ e. n (Memᴰ.head e))) (ap (λ (l : List ℕ). x ∷ l) (without_absent p xs (λ m. n (Memᴰ.tail m))))

-- Searching and selecting

-- what a list starts with
unfoldable pub front : List ℕ → Option ℕ
front [] = None
front (x ∷ xs) = Some x

pub seek_filter : (p : ℕ → Bool) (i k : ℕ) → seek p i k ≡ front (filter p (up_from i k))
unfolding seek filter up_from front
seek_filter p i zero = refl
seek_filter p i (suc k) = go (p i) (seek_filter p (i + 1) k)
  where
    go : (b : Bool) → seek p (i + 1) k ≡ front (filter p (up_from (i + 1) k)) → cond b (Some i) (seek p (i + 1) k) ≡ front (cons_if b i (filter p (up_from (i + 1) k)))
    go true e = refl
    go false e = e

pub seek_same : (p q : ℕ → Bool) (i k : ℕ) → ((j : ℕ) → i ≤ j → j < i + k → p j ≡ q j) → seek p i k ≡ seek q i k
unfolding seek
seek_same p q i zero h = refl
seek_same p q i (suc k) h = rw (h i (omega arith) (omega arith), seek_same p q (i + 1) k (λ j a b. h j (omega arith) (omega arith))) refl

-- Some element from a place on

module _ {A : Type 0} (p : A → Bool) (l : List A) (i : ℕ) (d : A) where
  pub any_here : i < length l → p (get_or l i d) ≡ true → any p (drop i l) ≡ true
  unfolding any
  any_here h e = rw (drop-cons l i d h, e) refl

  pub any_next : i < length l → p (get_or l i d) ≡ false → any p (drop i l) ≡ any p (drop (i + 1) l)
  unfolding any
  any_next h e = rw (drop-cons l i d h, e, add-one) refl

  pub any_end : length l ≤ i → any p (drop i l) ≡ false
  unfolding any
  any_end h = rw (drop_of_length-le l h) refl

pub any_same : {A : Type 0} (p q : A → Bool) (l : List A) → ((x : A) → Memᴰ x l → p x ≡ q x) → any p l ≡ any q l
unfolding any
any_same p q [] h = refl
any_same p q (x ∷ xs) h = rw (h x (Memᴰ.head refl), any_same p q xs (λ y m. h y (Memᴰ.tail m))) refl
