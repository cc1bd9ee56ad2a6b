-- Laws of ranges, tabulation, selection and places: membership both ways, lengths, elements by place, and distinctness. Assumes nothing.
use Prim.Native.Nat.{ℕ, zero, suc, ◌+◌, ◌<◌, ◌≤◌}
use native.Mathlib.Omega.{arith}
use native.Mathlib.Decide.{ℕ_discrete}
use native.Mathlib.Numerals.{add-one}
use mathlib.Core.Path.{◌≡◌, refl, sym, ap, ◌∙◌}
use mathlib.Core.Logic.{◌⊎◌, inl, inr, ⊎_elim}
use mathlib.Core.Bool.{Bool, true, false, cond, false≢true}
use mathlib.Core.List.Memᴰ
use mathlib.Core.List.{List, [], ◌∷◌, map, Memᴰ}
use lib.ListN.{length, get_or, length-map}
use lib.Dec.{eqb}
use borrow.Author.Tests.{eqb-true, eqb-false}
use Rattle.lists.specs.Select.{up_from, range, tabulate, cons_if, filter, one_if, count, index_of}

-- Elements by place

pub get_d_mem {ℓ} : {A : Type ℓ} (l : List A) (j : ℕ) (d : A) → j < length l → Memᴰ (get_or l j d) l
get_d_mem [] j d h = absurd (omega arith)
get_d_mem (x ∷ xs) zero d h = Memᴰ.head refl
get_d_mem (x ∷ xs) (suc j) d h = Memᴰ.tail (get_d_mem xs j d (omega arith))

pub get_d_map {ℓ ℓ'} : {A : Type ℓ} {B : Type ℓ'} (f : A → B) (l : List A) (j : ℕ) (d : A) (e : B) → j < length l → get_or (map f l) j e ≡ f (get_or l j d)
get_d_map f [] j d e h = absurd (omega arith)
get_d_map f (x ∷ xs) zero d e h = refl
get_d_map f (x ∷ xs) (suc j) d e h = get_d_map f xs j d e (omega arith)

-- Ranges

pub length_up_from : (i k : ℕ) → length (up_from i k) ≡ k
unfolding up_from
length_up_from i zero = refl
length_up_from i (suc k) = ap suc (length_up_from (i + 1) k)

pub get_d_up_from : (i k j d : ℕ) → j < k → get_or (up_from i k) j d ≡ i + j
unfolding up_from
get_d_up_from i zero j d h = absurd (omega arith)
get_d_up_from i (suc k) zero d h = omega arith
get_d_up_from i (suc k) (suc j) d h = let e : get_or (up_from (i + 1) k) j d ≡ i + 1 + j = get_d_up_from (i + 1) k j d (omega arith) in omega arith

pub up_from_e : {x : ℕ} (i k : ℕ) → Memᴰ x (up_from i k) → (i ≤ x) × (x < i + k)
unfolding up_from
up_from_e i zero m = absurd (Memᴰ.not-nil m)
up_from_e {x} i (suc k) m = go (λ n. up_from_e (i + 1) k n) (Memᴰ.cases_cons m)
  where
    go : (Memᴰ x (up_from (i + 1) k) → (i + 1 ≤ x) × (x < i + 1 + k)) → (x ≡ i) ⊎ Memᴰ x (up_from (i + 1) k) → (i ≤ x) × (x < i + suc k)
    go below (inl e) = omega arith
    go below (inr n) = omega (arith, below n)

pub up_from_i : (x i k : ℕ) → i ≤ x → x < i + k → Memᴰ x (up_from i k)
unfolding up_from
up_from_i x i zero h g = absurd (omega arith)
up_from_i x i (suc k) h g = go (λ a. up_from_i x (i + 1) k a (omega arith)) (ℕ_discrete x i)
  where
    go : (i + 1 ≤ x → Memᴰ x (up_from (i + 1) k)) → Dec (x ≡ i) → Memᴰ x (i ∷ up_from (i + 1) k)
    go below (yes e) = Memᴰ.head e
    go below (no n) = Memᴰ.tail (below (omega arith))

pub length_range : (n : ℕ) → length (range n) ≡ n
unfolding range
length_range n = length_up_from 0 n

pub range_e : {x : ℕ} (n : ℕ) → Memᴰ x (range n) → x < n
unfolding range
range_e n m = omega (arith, up_from_e 0 n m)

pub range_i : (x n : ℕ) → x < n → Memᴰ x (range n)
unfolding range
range_i x n h = up_from_i x 0 n (omega arith) (omega arith)

-- Tabulation

pub length_tabulate : {A : Type 0} (n : ℕ) (f : ℕ → A) → length (tabulate n f) ≡ n
unfolding tabulate
length_tabulate n f = length-map (range n) f ∙ length_range n

pub get_d_tabulate : {A : Type 0} (n : ℕ) (f : ℕ → A) (j : ℕ) (d : A) → j < n → get_or (tabulate n f) j d ≡ f j
unfolding tabulate range
get_d_tabulate n f j d h =
    let l : j < length (up_from 0 n) = omega (arith, length_up_from 0 n) in
    let e : get_or (up_from 0 n) j 0 ≡ j = omega (arith, get_d_up_from 0 n j 0 h) in
    get_d_map f (up_from 0 n) j 0 d l ∙ ap f e

-- Selection

module _ {A : Type 0} (p : A → Bool) where
  pub filter_e : {x : A} (l : List A) → Memᴰ x (filter p l) → Memᴰ x l × (p x ≡ true)
  unfolding filter
  filter_e [] m = absurd (Memᴰ.not-nil m)
  filter_e {x} (y ∷ ys) m = go (p y) refl (λ n. filter_e ys n) m
    where
      go : (b : Bool) → p y ≡ b → (Memᴰ x (filter p ys) → Memᴰ x ys × (p x ≡ true)) → Memᴰ x (cons_if b y (filter p ys)) → Memᴰ x (y ∷ ys) × (p x ≡ true)
      go false e below n = (Memᴰ.tail (below n).0, (below n).1)
      go true e below n = ⊎_elim (λ (q : x ≡ y). (Memᴰ.head q, ap p q ∙ e)) (λ (n' : Memᴰ x (filter p ys)). (Memᴰ.tail (below n').0, (below n').1)) (Memᴰ.cases_cons n)

  pub filter_i : {x : A} (l : List A) → Memᴰ x l → p x ≡ true → Memᴰ x (filter p l)
  unfolding filter
  filter_i [] m h = absurd (Memᴰ.not-nil m)
  filter_i {x} (y ∷ ys) m h = go (p y) refl (λ n. filter_i ys n h) (Memᴰ.cases_cons m)
    where
      go : (b : Bool) → p y ≡ b → (Memᴰ x ys → Memᴰ x (filter p ys)) → (x ≡ y) ⊎ Memᴰ x ys → Memᴰ x (cons_if b y (filter p ys))
      go true e below (inl q) = Memᴰ.head q
      go true e below (inr n) = Memᴰ.tail (below n)
      go false e below (inl q) = absurd (false≢true (sym e ∙ sym (ap p q) ∙ h))
      go false e below (inr n) = below n

  pub length_filter : (l : List A) → length (filter p l) ≡ count p l
  unfolding filter count
  length_filter [] = refl
  length_filter (y ∷ ys) = go (p y) (length_filter ys)
    where
      go : (b : Bool) → length (filter p ys) ≡ count p ys → length (cons_if b y (filter p ys)) ≡ one_if b + count p ys
      go true e = omega arith
      go false e = omega arith

-- Distinct elements

-- no element stands in the list twice
abbrev pub Distinct : List ℕ → Type 0
Distinct [] = Unit {0}
Distinct (x ∷ xs) = (Memᴰ x xs → ⊥) × Distinct xs

pub distinct_places : (l : List ℕ) → Distinct l → (i j d : ℕ) → i < length l → j < length l → get_or l i d ≡ get_or l j d → i ≡ j
distinct_places [] u i j d a b e = absurd (omega arith)
distinct_places (x ∷ xs) u zero zero d a b e = refl
distinct_places (x ∷ xs) u zero (suc j) d a b e = absurd (u.0 (Memᴰ.cast e (get_d_mem xs j d (omega arith))))
distinct_places (x ∷ xs) u (suc i) zero d a b e = absurd (u.0 (Memᴰ.cast (sym e) (get_d_mem xs i d (omega arith))))
distinct_places (x ∷ xs) u (suc i) (suc j) d a b e = ap suc (distinct_places xs u.1 i j d (omega arith) (omega arith) e)

pub distinct_up_from : (i k : ℕ) → Distinct (up_from i k)
unfolding up_from
distinct_up_from i zero = tt
distinct_up_from i (suc k) = (λ m. omega (arith, up_from_e (i + 1) k m), distinct_up_from (i + 1) k)

pub distinct_range : (n : ℕ) → Distinct (range n)
unfolding range
distinct_range n = distinct_up_from 0 n

pub distinct_filter : (p : ℕ → Bool) (l : List ℕ) → Distinct l → Distinct (filter p l)
unfolding filter
distinct_filter p [] u = tt
distinct_filter p (y ∷ ys) u = go (p y) (distinct_filter p ys u.1)
  where
    go : (b : Bool) → Distinct (filter p ys) → Distinct (cons_if b y (filter p ys))
    go true v = (λ m. u.0 (filter_e p ys m).0, v)
    go false v = v

-- Places

pub index_of_below : {x : ℕ} (l : List ℕ) → Memᴰ x l → index_of x l < length l
unfolding index_of
index_of_below [] m = absurd (Memᴰ.not-nil m)
index_of_below {x} (y ∷ ys) m = go (eqb x y) refl (λ n. index_of_below ys n) (Memᴰ.cases_cons m)
  where
    go : (b : Bool) → eqb x y ≡ b → (Memᴰ x ys → index_of x ys < length ys) → (x ≡ y) ⊎ Memᴰ x ys → cond b 0 (index_of x ys + 1) < suc (length ys)
    go true e below s = omega arith
    go false e below (inl q) = absurd (eqb-false x y e q)
    go false e below (inr n) = omega (arith, below n)

pub get_d_index_of : {x : ℕ} (l : List ℕ) (d : ℕ) → Memᴰ x l → get_or l (index_of x l) d ≡ x
unfolding index_of
get_d_index_of [] d m = absurd (Memᴰ.not-nil m)
get_d_index_of {x} (y ∷ ys) d m = go (eqb x y) refl (λ n. get_d_index_of ys d n) (Memᴰ.cases_cons m)
  where
    go : (b : Bool) → eqb x y ≡ b → (Memᴰ x ys → get_or ys (index_of x ys) d ≡ x) → (x ≡ y) ⊎ Memᴰ x ys → get_or (y ∷ ys) (cond b 0 (index_of x ys + 1)) d ≡ x
    go true e below s = sym (eqb-true x y e)
    go false e below (inl q) = absurd (eqb-false x y e q)
    go false e below (inr n) = rw add-one (below n)

pub index_of_get_d : (l : List ℕ) (j d : ℕ) → Distinct l → j < length l → index_of (get_or l j d) l ≡ j
index_of_get_d l j d u h = distinct_places l u (index_of (get_or l j d) l) j d (index_of_below l (get_d_mem l j d h)) h (get_d_index_of l d (get_d_mem l j d h))

pub index_of_one : {x y : ℕ} (l : List ℕ) → Memᴰ x l → Memᴰ y l → index_of x l ≡ index_of y l → x ≡ y
index_of_one l m n e = sym (get_d_index_of l 0 m) ∙ ap (λ (k : ℕ). get_or l k 0) e ∙ get_d_index_of l 0 n
