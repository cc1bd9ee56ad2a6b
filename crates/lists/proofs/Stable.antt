-- The sort is stable: of a rising list, elements with equal keys still rise. Assumes nothing.
use Prim.Native.Nat.{ℕ, zero, suc, ◌<◌, ◌≤◌}
use native.Mathlib.Omega.{arith}
use native.Mathlib.Decide.{ℕ_discrete}
use mathlib.Core.Path.{◌≡◌, refl, ap}
use mathlib.Core.Logic.{◌⊎◌, inl, inr, ⊎_elim}
use mathlib.Core.Bool.{Bool, true, false, cond}
use mathlib.Core.List.Memᴰ
use mathlib.Core.List.{List, [], ◌∷◌, Memᴰ}
use lib.ListN.{length, get_or}
use lib.Dec.{leb}
use borrow.Author.Tests.{leb-true, leb-false}
use Rattle.lists.specs.Select.{insert_by, sort_by}
use Rattle.lists.proofs.Select.{get_d_mem, Distinct}
use Rattle.lists.proofs.Sort.{insert_by_e, sort_by_e, Rising}

module _ (key : ℕ → ℕ) where
  -- by rising key, and among equal keys the lower number first
  pub record Precedes (x y : ℕ) : Type 0 where
    pub rises : key x ≤ key y
    pub lower : key x ≡ key y → x < y

  -- each element precedes every later one
  abbrev pub Stable : List ℕ → Type 0
  Stable [] = Unit {0}
  Stable (x ∷ xs) = ((y : ℕ) → Memᴰ y xs → Precedes x y) × Stable xs

  stable_insert_by : (x : ℕ) (l : List ℕ) → ((y : ℕ) → Memᴰ y l → x < y) → Stable l → Stable (insert_by key x l)
  unfolding insert_by
  stable_insert_by x [] less s = (λ y m. absurd (Memᴰ.not-nil m), tt)
  stable_insert_by x (y ∷ ys) less s = go (leb (key x) (key y)) refl (stable_insert_by x ys (λ z m. less z (Memᴰ.tail m)) s.1)
    where
      up : key x ≤ key y → (z : ℕ) → (z ≡ y) ⊎ Memᴰ z ys → key x ≤ key z
      up h z (inl q) = omega (arith, ap key q)
      up h z (inr m) = omega (arith, (s.0 z m).rises)

      go : (b : Bool) → leb (key x) (key y) ≡ b → Stable (insert_by key x ys) → Stable (cond b (x ∷ y ∷ ys) (y ∷ insert_by key x ys))
      go true e v = (λ z m. record { rises = up (leb-true (key x) (key y) e) z (Memᴰ.cases_cons m); lower = λ q. less z m }, s)
      go false e v = (
        λ z m.
            ⊎_elim
            (λ (q : z ≡ x). record {
              rises = omega (arith, leb-false (key x) (key y) e, ap key q);
              lower = λ k. absurd (omega (arith, leb-false (key x) (key y) e, ap key q));
            })
            (λ (n : Memᴰ z ys). s.0 z n)
            (insert_by_e key x ys m),
        v,
      )

  pub stable_sort_by : (l : List ℕ) → Rising (λ x. x) l → Distinct l → Stable (sort_by key l)
  unfolding sort_by
  stable_sort_by [] r u = tt
  stable_sort_by (x ∷ xs) r u = stable_insert_by x (sort_by key xs) (λ y m. less y (sort_by_e key xs m) (ℕ_discrete x y)) (stable_sort_by xs r.1 u.1)
    where
      less : (y : ℕ) → Memᴰ y xs → Dec (x ≡ y) → x < y
      less y m (yes e) = absurd (u.0 (Memᴰ.cast e m))
      less y m (no n) = omega (arith, r.0 y m)

  pub stable_places : (l : List ℕ) → Stable l → (i j d : ℕ) → i < j → j < length l → Precedes (get_or l i d) (get_or l j d)
  stable_places [] s i j d a b = absurd (omega arith)
  stable_places (x ∷ xs) s i zero d a b = absurd (omega arith)
  stable_places (x ∷ xs) s zero (suc j) d a b = s.0 (get_or xs j d) (get_d_mem xs j d (omega arith))
  stable_places (x ∷ xs) s (suc i) (suc j) d a b = stable_places xs s.1 i j d (omega arith) (omega arith)
