-- Lists of numbers under other names: what is selected, moved to the end, found by place and sorted has the names of what it was. Assumes
-- nothing.
use Prim.Native.Nat.{ℕ}
use native.Mathlib.Omega.{arith}
use mathlib.Core.Path.{◌≡◌, refl, sym, ap, ap₂, subst, ◌∙◌}
use mathlib.Core.Logic.{◌⊎◌, inl, inr}
use mathlib.Core.Bool.{Bool, true, false, not}
use mathlib.Core.List.Memᴰ
use mathlib.Core.List.{List, [], ◌∷◌, ◌++◌, map, map-append, Memᴰ}
use lib.Dec.{eqb}
use Rattle.lists.specs.Select.{cons_if, filter, without, index_of, lastly}
use Rattle.lists.proofs.Multiset.{map_e}
use Rattle.lists.proofs.Stable.{Precedes, Stable}

-- a test of the names that says what the other says of the numbers selects the names of what the other selects
pub filter_renamed : (f : ℕ → ℕ) (p q : ℕ → Bool) (l : List ℕ) → ((x : ℕ) → Memᴰ x l → q (f x) ≡ p x) → filter q (map f l) ≡ map f (filter p l)
unfolding filter
filter_renamed f p q [] h = refl
filter_renamed f p q (x ∷ xs) h =
    rw (h x (Memᴰ.head refl), filter_renamed f p q xs (λ y m. h y (Memᴰ.tail m))) (go (p x))
  where
    go : (b : Bool) → cons_if b (f x) (map f (filter p xs)) ≡ map f (cons_if b x (filter p xs))
    go true = refl
    go false = refl

-- where b is the name of a, it is moved to the end as a is
pub lastly_renamed : (f : ℕ → ℕ) (a b : ℕ) (l : List ℕ) → ((x : ℕ) → Memᴰ x l → eqb b (f x) ≡ eqb a x) → lastly b (map f l) ≡ map f (lastly a l)
unfolding lastly without
lastly_renamed f a b l h =
    ap₂ (λ (r s : List ℕ). r ++ s)
    (filter_renamed f (λ y. not (eqb a y)) (λ y. not (eqb b y)) l (λ x m. ap not (h x m)))
    (filter_renamed f (eqb a) (eqb b) l h)
    ∙ sym (map-append f (filter (λ y. not (eqb a y)) l) (filter (eqb a) l))

-- and b's place is a's
pub index_of_renamed : (f : ℕ → ℕ) (a b : ℕ) (l : List ℕ) → ((x : ℕ) → Memᴰ x l → eqb b (f x) ≡ eqb a x) → index_of b (map f l) ≡ index_of a l
unfolding index_of
index_of_renamed f a b [] h = refl
index_of_renamed f a b (x ∷ xs) h = rw (h x (Memᴰ.head refl), index_of_renamed f a b xs (λ y m. h y (Memᴰ.tail m)))

-- names of numbers in their sequence are in theirs
pub stable_renamed :
    (f key name : ℕ → ℕ) (l : List ℕ) → ((x y : ℕ) → Memᴰ x l → Memᴰ y l → Precedes key x y → Precedes name (f x) (f y))
    → Stable key l → Stable name (map f l)
stable_renamed f key name [] h s = tt
stable_renamed f key name (x ∷ xs) h s = (
  (λ y m. let t = map_e f xs m in subst (λ (z : ℕ). Precedes name (f x) z) (sym t.2) (h x t.0 (Memᴰ.head refl) (Memᴰ.tail t.1) (s.0 t.0 t.1))),
  stable_renamed f key name xs (λ y z m n. h y z (Memᴰ.tail m) (Memᴰ.tail n)) s.1,
)

-- two lists of the same numbers in their sequence are equal
pub stable_same :
    (key : ℕ → ℕ) (l k : List ℕ) → Stable key l → Stable key k → ((x : ℕ) → Memᴰ x l → Memᴰ x k) → ((x : ℕ) → Memᴰ x k → Memᴰ x l) → l ≡ k
stable_same key [] [] a b s t = refl
stable_same key [] (y ∷ ys) a b s t = absurd (Memᴰ.not-nil (t y (Memᴰ.head refl)))
stable_same key (x ∷ xs) [] a b s t = absurd (Memᴰ.not-nil (s x (Memᴰ.head refl)))
stable_same key (x ∷ xs) (y ∷ ys) a b s t =
    let e : x ≡ y = first (Memᴰ.cases_cons (s x (Memᴰ.head refl))) (Memᴰ.cases_cons (t y (Memᴰ.head refl))) in
    ap₂ {C = List ℕ} (λ z zs. z ∷ zs) e
    (stable_same key xs ys a.1 b.1
    (λ z m. down e z m (Memᴰ.cases_cons (s z (Memᴰ.tail m)))) (λ z m. up e z m (Memᴰ.cases_cons (t z (Memᴰ.tail m)))))
  where
    -- nothing precedes itself, and of two only one precedes the other
    both : (v w : ℕ) → Precedes key v w → Precedes key w v → ⊥
    both v w p q = let e : key v ≡ key w = omega (arith, p.rises, q.rises) in omega (arith, p.lower e, q.lower (sym e))

    first : (x ≡ y) ⊎ Memᴰ x ys → (y ≡ x) ⊎ Memᴰ y xs → x ≡ y
    first (inl e) q = e
    first (inr m) (inl e) = sym e
    first (inr m) (inr n) = absurd (both x y (a.0 y n) (b.0 x m))

    down : x ≡ y → (z : ℕ) → Memᴰ z xs → (z ≡ y) ⊎ Memᴰ z ys → Memᴰ z ys
    down e z m (inl q) = absurd (omega (arith, (a.0 z m).lower (ap key (e ∙ sym q))))
    down e z m (inr n) = n

    up : x ≡ y → (z : ℕ) → Memᴰ z ys → (z ≡ x) ⊎ Memᴰ z xs → Memᴰ z xs
    up e z m (inl q) = absurd (omega (arith, (b.0 z m).lower (ap key (sym e ∙ sym q))))
    up e z m (inr n) = n
