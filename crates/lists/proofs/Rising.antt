-- Lists that strictly rise by a key: each is the only such list of its elements, so that it is what sorting gives. Assumes nothing.
use Prim.Native.Nat.{ℕ, suc, ◌<◌}
use native.Mathlib.Omega.{arith}
use mathlib.Core.Path.{◌≡◌, refl, sym, ap, ap₂, ◌∙◌}
use mathlib.Core.Logic.{◌⊎◌, inl, inr}
use mathlib.Core.List.Memᴰ
use mathlib.Core.List.{List, [], ◌∷◌, Memᴰ}
use lib.ListN.{length, get_or}
use Rattle.lists.specs.Select.{range, sort_by}
use Rattle.lists.proofs.Select.{range_e, range_i, Distinct, distinct_range}
use Rattle.lists.proofs.Sort.{sort_by_e, sort_by_i, distinct_sort_by, Rising, rising_sort_by}
use Rattle.lists.proofs.Places.{mem-place}

module _ (key : ℕ → ℕ) where
  -- each element's key is less than that of every later one
  abbrev pub StrictlyRising : List ℕ → Type 0
  StrictlyRising [] = Unit {0}
  StrictlyRising (x ∷ xs) = ((y : ℕ) → Memᴰ y xs → key x < key y) × StrictlyRising xs

  pub strictly_of_places : (l : List ℕ) → ((i j : ℕ) → i < j → j < length l → key (get_or l i 0) < key (get_or l j 0)) → StrictlyRising l
  strictly_of_places [] f = tt
  strictly_of_places (x ∷ xs) f = (
    (λ y m. let t = mem-place xs 0 m in omega (arith, f 0 (suc t.0) (omega arith) (omega (arith, t.1)), ap key t.2)),
    strictly_of_places xs (λ i j a b. f (suc i) (suc j) (omega arith) (omega arith)),
  )

  pub strictly_of_rising :
      (l : List ℕ) → Rising key l → Distinct l → ((x y : ℕ) → Memᴰ x l → Memᴰ y l → key x ≡ key y → x ≡ y) → StrictlyRising l
  strictly_of_rising [] r u f = tt
  strictly_of_rising (x ∷ xs) r u f = (
    (λ y m. go y m (native.Mathlib.Decide.ℕ_discrete (key x) (key y))),
    strictly_of_rising xs r.1 u.1 (λ y z m n. f y z (Memᴰ.tail m) (Memᴰ.tail n)),
  )
    where
      go : (y : ℕ) → Memᴰ y xs → Dec (key x ≡ key y) → key x < key y
      go y m (yes e) = absurd (u.0 (Memᴰ.cast (f x y (Memᴰ.head refl) (Memᴰ.tail m) e) m))
      go y m (no n) = omega (arith, r.0 y m)

  pub strictly_same :
      (l r : List ℕ) → StrictlyRising l → StrictlyRising r → ((x : ℕ) → Memᴰ x l → Memᴰ x r) → ((x : ℕ) → Memᴰ x r → Memᴰ x l) → l ≡ r
  strictly_same [] [] a b s t = refl
  strictly_same [] (y ∷ ys) a b s t = absurd (Memᴰ.not-nil (t y (Memᴰ.head refl)))
  strictly_same (x ∷ xs) [] a b s t = absurd (Memᴰ.not-nil (s x (Memᴰ.head refl)))
  strictly_same (x ∷ xs) (y ∷ ys) a b s t =
      let e : x ≡ y = first (Memᴰ.cases_cons (s x (Memᴰ.head refl))) (Memᴰ.cases_cons (t y (Memᴰ.head refl))) in
      ap₂ {C = List ℕ} (λ z zs. z ∷ zs) e (strictly_same xs ys a.1 b.1 (λ z m. down e z m (Memᴰ.cases_cons (s z (Memᴰ.tail m)))) (λ z m. up e z m (Memᴰ.cases_cons (t z (Memᴰ.tail m)))))
    where
      first : (x ≡ y) ⊎ Memᴰ x ys → (y ≡ x) ⊎ Memᴰ y xs → x ≡ y
      first (inl e) q = e
      first (inr m) (inl e) = sym e
      first (inr m) (inr n) = absurd (omega (arith, a.0 y n, b.0 x m))

      down : x ≡ y → (z : ℕ) → Memᴰ z xs → (z ≡ y) ⊎ Memᴰ z ys → Memᴰ z ys
      down e z m (inl q) = absurd (omega (arith, a.0 z m, ap key e, ap key q))
      down e z m (inr n) = n

      up : x ≡ y → (z : ℕ) → Memᴰ z ys → (z ≡ x) ⊎ Memᴰ z xs → Memᴰ z xs
      up e z m (inl q) = absurd (omega (arith, b.0 z m, ap key e, ap key q))
      up e z m (inr n) = n

  strictly_one : (r : List ℕ) → StrictlyRising r → (x y : ℕ) → Memᴰ x r → Memᴰ y r → key x ≡ key y → x ≡ y
  strictly_one [] b x y m k q = absurd (Memᴰ.not-nil m)
  strictly_one (z ∷ zs) b x y m k q = go (λ m' k'. strictly_one zs b.1 x y m' k' q) (Memᴰ.cases_cons m) (Memᴰ.cases_cons k)
    where
      go : (Memᴰ x zs → Memᴰ y zs → x ≡ y) → (x ≡ z) ⊎ Memᴰ x zs → (y ≡ z) ⊎ Memᴰ y zs → x ≡ y
      go below (inl d) (inl e) = d ∙ sym e
      go below (inl d) (inr n) = absurd (omega (arith, b.0 y n, ap key d))
      go below (inr n) (inl e) = absurd (omega (arith, b.0 x n, ap key e))
      go below (inr n) (inr o) = below n o

  -- sorting the numbers below n gives the list of them that strictly rises by key
  pub sort_by_strictly : (n : ℕ) (l : List ℕ) → StrictlyRising l → ((x : ℕ) → Memᴰ x l → x < n) → ((x : ℕ) → x < n → Memᴰ x l) → sort_by key (range n) ≡ l
  sort_by_strictly n l a f g =
      strictly_same (sort_by key (range n)) l
      (strictly_of_rising (sort_by key (range n)) (rising_sort_by key (range n)) (distinct_sort_by key (range n) (distinct_range n)) (λ x y m k. strictly_one l a x y (inside x m) (inside y k)))
      a inside (λ x m. sort_by_i key (range n) (range_i x n (f x m)))
    where
      inside : (x : ℕ) → Memᴰ x (sort_by key (range n)) → Memᴰ x l
      inside x m = g x (range_e n (sort_by_e key (range n) m))
