-- What a prefix and a store keep: members, bounds, and the values under a map. Assumes nothing.
use Prim.Native.Nat.{ℕ, zero, suc, ◌+◌, ◌<◌, ◌≤◌}
use native.Mathlib.Omega.{arith}
use native.Mathlib.Decide.{ℕ_discrete}
use mathlib.Core.Path.{◌≡◌, refl, ap}
use mathlib.Core.Logic.{◌⊎◌, inl, inr}
use mathlib.Core.List.Memᴰ
use mathlib.Core.List.{List, [], ◌∷◌, map, Memᴰ}
use lib.ListN.{length, get_or, take, set, replicate, length-map}
use lib.Seq.{get_or-set_same, get_or-set_other}

module _ {A : Type 0} (f : A → ℕ) where
  pub map_set : (l : List A) (i : ℕ) (a : A) → map f (set l i a) ≡ set (map f l) i (f a)
  map_set [] i a = refl
  map_set (x ∷ xs) zero a = refl
  map_set (x ∷ xs) (suc i) a = ap (λ (l : List ℕ). f x ∷ l) (map_set xs i a)

  pub map_set_same : (l : List A) (i : ℕ) (a : A) (d : ℕ) → i < length l → get_or (map f (set l i a)) i d ≡ f a
  map_set_same l i a d h = rw (map_set l i a) (get_or-set_same (map f l) i (f a) d (omega (arith, length-map l f)))

  pub map_set_other : (l : List A) (i j : ℕ) (a : A) (d : ℕ) → (j ≡ i → ⊥) → get_or (map f (set l i a)) j d ≡ get_or (map f l) j d
  map_set_other l i j a d n = rw (map_set l i a) (get_or-set_other (map f l) i j (f a) d n)

  pub map_replicate : (n : ℕ) (a : A) → map f (replicate n a) ≡ replicate n (f a)
  map_replicate zero a = refl
  map_replicate (suc n) a = ap (λ (l : List ℕ). f a ∷ l) (map_replicate n a)

pub mem_below : {x : ℕ} (n : ℕ) (l : List ℕ) → ((i : ℕ) → get_or l i 0 < n) → Memᴰ x l → x < n
mem_below n [] h m = absurd (Memᴰ.not-nil m)
mem_below {x} n (y ∷ ys) h m = go (λ k. mem_below n ys (λ i. h (suc i)) k) (Memᴰ.cases_cons m)
  where
    go : (Memᴰ x ys → x < n) → (x ≡ y) ⊎ Memᴰ x ys → x < n
    go below (inl e) = omega (arith, h 0)
    go below (inr k) = below k

pub mem_take : {x : ℕ} (k : ℕ) (l : List ℕ) → Memᴰ x (take k l) → Memᴰ x l
mem_take zero l m = absurd (Memᴰ.not-nil m)
mem_take (suc k) [] m = m
mem_take {x} (suc k) (y ∷ ys) m = go (λ h. mem_take k ys h) (Memᴰ.cases_cons m)
  where
    go : (Memᴰ x (take k ys) → Memᴰ x ys) → (x ≡ y) ⊎ Memᴰ x (take k ys) → Memᴰ x (y ∷ ys)
    go below (inl e) = Memᴰ.head e
    go below (inr h) = Memᴰ.tail (below h)

pub take_replicate : {A : Type 0} (m n : ℕ) (a : A) → m ≤ n → take m (replicate n a) ≡ replicate m a
take_replicate zero n a h = refl
take_replicate (suc m) zero a h = absurd (omega arith)
take_replicate {A} (suc m) (suc n) a h = ap (λ (l : List A). a ∷ l) (take_replicate m n a (omega arith))

-- what holds of each element below i holds below i + 1 once it holds of the one that is stored there
pub below_set :
    {A : Type 0} (P : ℕ → A → Type 0) (l : List A) (i : ℕ) (a d : A) → i < length l → ((j : ℕ) → j < i → P j (get_or l j d)) → P i a
    → (j : ℕ) → j < i + 1 → P j (get_or (set l i a) j d)
below_set P l i a d b h p j g = go (ℕ_discrete j i)
  where
    go : Dec (j ≡ i) → P j (get_or (set l i a) j d)
    go (yes e) = rw (e, get_or-set_same l i a d b) p
    go (no n) = rw (get_or-set_other l i j a d n) (h j (omega arith))
