-- Counting, testing, tabulating and taking through a map, and lists put one behind the other. Assumes nothing.
use Prim.Native.Nat.{ℕ, zero, suc, ◌+◌}
use native.Mathlib.Omega.{arith}
use mathlib.Core.Path.{◌≡◌, refl, ap, ap₂, subst}
use mathlib.Core.Logic.{◌⊎◌, inl, inr}
use mathlib.Core.Bool.{Bool, ◌||◌}
use mathlib.Core.List.Memᴰ
use mathlib.Core.List.{List, [], ◌∷◌, ◌++◌, map, map-map, flat_map, Memᴰ}
use lib.ListN.{length, take}
use Rattle.lists.specs.Select.{range, tabulate, any, one_if, count}

pub count_map : {A B : Type 0} (p : B → Bool) (f : A → B) (l : List A) → count p (map f l) ≡ count (λ x. p (f x)) l
unfolding count
count_map p f [] = refl
count_map p f (x ∷ xs) = ap (λ (k : ℕ). one_if (p (f x)) + k) (count_map p f xs)

pub any_map : {A B : Type 0} (p : B → Bool) (f : A → B) (l : List A) → any p (map f l) ≡ any (λ x. p (f x)) l
unfolding any
any_map p f [] = refl
any_map p f (x ∷ xs) = ap (λ (b : Bool). p (f x) || b) (any_map p f xs)

pub count_tabulate : {A : Type 0} (p : A → Bool) (m : ℕ) (f : ℕ → A) → count p (tabulate m f) ≡ count (λ i. p (f i)) (range m)
unfolding tabulate
count_tabulate p m f = count_map p f (range m)

pub map_tabulate : {A B : Type 0} (g : A → B) (m : ℕ) (f : ℕ → A) → map g (tabulate m f) ≡ tabulate m (λ i. g (f i))
unfolding tabulate
map_tabulate g m f = map-map g f (range m)

-- lists put one behind the other
module _ {A B : Type 0} (f : A → List B) where
  pub flat_map_e : {y : B} (l : List A) → Memᴰ y (flat_map f l) → (x : A) × Memᴰ x l × Memᴰ y (f x)
  unfolding flat_map
  flat_map_e [] m = absurd (Memᴰ.not-nil m)
  flat_map_e {y} (x ∷ xs) m = go (λ n. flat_map_e xs n) (Memᴰ.append_cases (f x) m)
    where
      go :
          (Memᴰ y (flat_map f xs) → (z : A) × Memᴰ z xs × Memᴰ y (f z)) → Memᴰ y (f x) ⊎ Memᴰ y (flat_map f xs)
          → (z : A) × Memᴰ z (x ∷ xs) × Memᴰ y (f z)
      go below (inl n) = (x, Memᴰ.head refl, n)
      go below (inr n) = let t = below n in (t.0, Memᴰ.tail t.1, t.2)

  pub flat_map_i : {x : A} {y : B} (l : List A) → Memᴰ x l → Memᴰ y (f x) → Memᴰ y (flat_map f l)
  unfolding flat_map
  flat_map_i [] m n = absurd (Memᴰ.not-nil m)
  flat_map_i {x} {y} (z ∷ zs) m n = go (λ k. flat_map_i zs k n) (Memᴰ.cases_cons m)
    where
      go : (Memᴰ x zs → Memᴰ y (flat_map f zs)) → (x ≡ z) ⊎ Memᴰ x zs → Memᴰ y (f z ++ flat_map f zs)
      go later (inl e) = Memᴰ.append_left (flat_map f zs) (subst (λ (w : A). Memᴰ y (f w)) e n)
      go later (inr k) = Memᴰ.append_right (f z) (later k)

-- the first n elements, mapped
pub map_take : {A B : Type 0} (f : A → B) (n : ℕ) (l : List A) → map f (take n l) ≡ take n (map f l)
map_take f zero l = refl
map_take f (suc n) [] = refl
map_take f (suc n) (x ∷ l) = ap (λ (t : List _). f x ∷ t) (map_take f n l)

-- a map that takes no two elements to one tells lists apart
pub map_one : {A B : Type 0} (f : A → B) → ((x y : A) → f x ≡ f y → x ≡ y) → (l k : List A) → map f l ≡ map f k → l ≡ k
map_one f one [] [] e = refl
map_one f one [] (y ∷ k) e = absurd (omega (arith, ap length e))
map_one f one (x ∷ l) [] e = absurd (omega (arith, ap length e))
map_one {A} f one (x ∷ l) (y ∷ k) e =
    let h : f x ≡ f y = cc in
    let t : map f l ≡ map f k = cc in
    ap₂ (λ (z : A) (r : List A). z ∷ r) (one x y h) (map_one f one l k t)
