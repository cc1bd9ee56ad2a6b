-- The pairs of a list that pass a test, each counted once: where the test says the same either way round, their number does not depend on
-- the sequence of the list, and the numbers below m and their pairs are as many under other names. Assumes nothing.
use Prim.Native.Nat.{ℕ, ◌+◌, ◌<◌}
use native.Mathlib.Omega.{arith}
use mathlib.Core.Path.{◌≡◌, refl, sym, ap, ap₂, ◌∙◌}
use mathlib.Core.Bool.{Bool, true, false, cond}
use mathlib.Core.List.Memᴰ
use mathlib.Core.List.{List, [], ◌∷◌, map, Memᴰ}
use lib.Dec.{leb}
use Rattle.lists.specs.Select.{range, one_if, count, insert_by, sort_by}
use Rattle.lists.proofs.Select.{range_e, range_i, Distinct, distinct_range}
use Rattle.lists.proofs.Sort.{sort_by_e, sort_by_i, distinct_sort_by, rising_sort_by}
use Rattle.lists.proofs.Sets.{rising_range}
use Rattle.lists.proofs.Rising.{strictly_of_rising, strictly_same}
use Rattle.lists.proofs.Multiset.{count_insert_by, count_sort_by, map_e}
use Rattle.lists.proofs.Maps.{count_map}
use Rattle.lists.proofs.Filters.{count_same}

-- each element with those behind it
unfoldable pub pair_count : {A : Type 0} → (A → A → Bool) → List A → ℕ
pair_count t [] = 0
pair_count t (x ∷ xs) = count (t x) xs + pair_count t xs

-- the pairs of a mapped list
pub pairs_map : {A B : Type 0} (t : B → B → Bool) (f : A → B) (l : List A) → pair_count t (map f l) ≡ pair_count (λ x y. t (f x) (f y)) l
unfolding pair_count
pairs_map t f [] = refl
pairs_map t f (x ∷ xs) = ap₂ (λ (a b : ℕ). a + b) (count_map (t (f x)) f xs) (pairs_map t f xs)

agreeing_tests :
    {A : Type 0} (s t : A → A → Bool) (l : List A) → ((x y : A) → Memᴰ x l → Memᴰ y l → s x y ≡ t x y) → pair_count s l ≡ pair_count t l
unfolding pair_count
agreeing_tests s t [] h = refl
agreeing_tests s t (x ∷ xs) h =
    ap₂ (λ (a b : ℕ). a + b) (count_same (s x) (t x) xs (λ y m. h x y (Memᴰ.head refl) (Memᴰ.tail m)))
    (agreeing_tests s t xs (λ y z m n. h y z (Memᴰ.tail m) (Memᴰ.tail n)))

module _ (key : ℕ → ℕ) (t : ℕ → ℕ → Bool) (either : (x y : ℕ) → t x y ≡ t y x) where
  pairs_insert_by : (x : ℕ) (l : List ℕ) → pair_count t (insert_by key x l) ≡ count (t x) l + pair_count t l
  unfolding pair_count insert_by count
  pairs_insert_by x [] = refl
  pairs_insert_by x (y ∷ ys) = go (leb (key x) (key y)) (pairs_insert_by x ys)
    where
      turned : one_if (t y x) ≡ one_if (t x y)
      turned = ap (λ (b : Bool). one_if b) (either y x)

      go : (b : Bool) → pair_count t (insert_by key x ys) ≡ count (t x) ys + pair_count t ys
          → pair_count t (cond b (x ∷ y ∷ ys) (y ∷ insert_by key x ys)) ≡ one_if (t x y) + count (t x) ys + (count (t y) ys + pair_count t ys)
      go true e = refl
      go false e = omega (arith, count_insert_by key (t y) x ys, turned)

  pairs_sort_by : (l : List ℕ) → pair_count t (sort_by key l) ≡ pair_count t l
  unfolding pair_count sort_by
  pairs_sort_by [] = refl
  pairs_sort_by (x ∷ xs) =
      pairs_insert_by x (sort_by key xs) ∙ ap₂ (λ (a b : ℕ). a + b) (count_sort_by key (t x) xs) (pairs_sort_by xs)

-- f takes the numbers below m to the same numbers, none twice
module _ (m : ℕ) (f : ℕ → ℕ) (below : (i : ℕ) → i < m → f i < m) (one : (i j : ℕ) → i < m → j < m → f i ≡ f j → i ≡ j)
    (onto : (j : ℕ) → j < m → (i : ℕ) × (i < m) × (f i ≡ j)) where
  distinct_renamed : (l : List ℕ) → ((x : ℕ) → Memᴰ x l → x < m) → Distinct l → Distinct (map f l)
  distinct_renamed [] h u = tt
  distinct_renamed (x ∷ xs) h u = (
    (λ n. let t = map_e f xs n in u.0 (Memᴰ.cast (one x t.0 (h x (Memᴰ.head refl)) (h t.0 (Memᴰ.tail t.1)) t.2) t.1)),
    distinct_renamed xs (λ y n. h y (Memᴰ.tail n)) u.1,
  )

  sorted_renamed : sort_by (λ x. x) (map f (range m)) ≡ range m
  sorted_renamed =
      strictly_same (λ x. x) (sort_by (λ x. x) l) (range m)
      (strictly_of_rising (λ x. x) (sort_by (λ x. x) l) (rising_sort_by (λ x. x) l)
      (distinct_sort_by (λ x. x) l (distinct_renamed (range m) (λ x n. range_e m n) (distinct_range m))) (λ x y p q e. e))
      (strictly_of_rising (λ x. x) (range m) (rising_range m) (distinct_range m) (λ x y p q e. e))
      (λ x n. let t = map_e f (range m) (sort_by_e (λ y. y) l n) in range_i x m (omega (arith, below t.0 (range_e m t.1), t.2)))
      (λ x n. let t = onto x (range_e m n) in sort_by_i (λ y. y) l (Memᴰ.cast (sym t.2) (Memᴰ.map f (range_i t.0 m t.1))))
    where
      l : List ℕ
      l = map f (range m)

  -- as many under the one test as under the other, which says of f i what the one says of i
  pub count_renamed : (p q : ℕ → Bool) → ((i : ℕ) → i < m → q (f i) ≡ p i) → count q (range m) ≡ count p (range m)
  count_renamed p q h =
      sym (ap (count q) sorted_renamed) ∙ count_sort_by (λ x. x) q (map f (range m)) ∙ count_map q f (range m)
      ∙ count_same (λ i. q (f i)) p (range m) (λ i n. h i (range_e m n))

  -- as many pairs under the one test as under the other, which says of f i and f j what the one says of i and j
  pub pairs_renamed :
      (s t : ℕ → ℕ → Bool) → ((x y : ℕ) → t x y ≡ t y x) → ((i j : ℕ) → i < m → j < m → t (f i) (f j) ≡ s i j)
      → pair_count t (range m) ≡ pair_count s (range m)
  pairs_renamed s t either h =
      sym (ap (pair_count t) sorted_renamed) ∙ pairs_sort_by (λ x. x) t either (map f (range m)) ∙ pairs_map t f (range m)
      ∙ agreeing_tests (λ i j. t (f i) (f j)) s (range m) (λ i j p q. h i j (range_e m p) (range_e m q))
