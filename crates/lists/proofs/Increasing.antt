-- Strictly increasing maps of numbers keep ≤, take back ≡, < and ≤, and keep the tests of them, the lesser and the greater of two. Assumes
-- nothing.
use Prim.Native.Nat.{ℕ, ◌<◌, ◌≤◌, min, max}
use native.Mathlib.Omega.{arith}
use native.Mathlib.Decide.{dec_lt}
use mathlib.Core.Path.{◌≡◌, ap}
use lib.Dec.{eqb, leb}
use borrow.Author.Tests.{eqb-true, eq-eqb, leb-true, le-leb}
use Rattle.lists.proofs.Bools.{same_test}

abbrev pub Increasing : (ℕ → ℕ) → Type 0
Increasing f = (x y : ℕ) → x < y → f x < f y

module _ (f : ℕ → ℕ) (inc : Increasing f) where
  pub increasing_one : (x y : ℕ) → f x ≡ f y → x ≡ y
  increasing_one x y e = go (dec_lt x y) (dec_lt y x)
    where
      go : Dec (x < y) → Dec (y < x) → x ≡ y
      go (yes h) d = absurd (omega (arith, inc x y h))
      go (no h) (yes g) = absurd (omega (arith, inc y x g))
      go (no h) (no g) = omega arith

  pub increasing_less : (x y : ℕ) → f x < f y → x < y
  increasing_less x y h = go (dec_lt x y) (dec_lt y x)
    where
      go : Dec (x < y) → Dec (y < x) → x < y
      go (yes g) d = g
      go (no g) (yes l) = absurd (omega (arith, inc y x l))
      go (no g) (no l) = let e : x ≡ y = omega arith in absurd (omega (arith, ap f e))

  pub increasing_le : (x y : ℕ) → x ≤ y → f x ≤ f y
  increasing_le x y h = go (dec_lt x y)
    where
      go : Dec (x < y) → f x ≤ f y
      go (yes l) = omega (arith, inc x y l)
      go (no l) = let e : x ≡ y = omega arith in omega (arith, ap f e)

  pub increasing_back : (x y : ℕ) → f x ≤ f y → x ≤ y
  increasing_back x y h = go (dec_lt y x)
    where
      go : Dec (y < x) → x ≤ y
      go (yes l) = absurd (omega (arith, inc y x l))
      go (no l) = omega arith

  pub eqb_kept : (x y : ℕ) → eqb (f x) (f y) ≡ eqb x y
  eqb_kept x y =
      same_test (eqb (f x) (f y)) (eqb x y) (λ e. eq-eqb x y (increasing_one x y (eqb-true (f x) (f y) e)))
      (λ e. eq-eqb (f x) (f y) (ap f (eqb-true x y e)))

  pub leb_kept : (x y : ℕ) → leb (f x) (f y) ≡ leb x y
  leb_kept x y =
      same_test (leb (f x) (f y)) (leb x y) (λ e. le-leb x y (increasing_back x y (leb-true (f x) (f y) e)))
      (λ e. le-leb (f x) (f y) (increasing_le x y (leb-true x y e)))

  pub min_kept : (x y : ℕ) → min (f x) (f y) ≡ f (min x y)
  min_kept x y = go (dec_lt x y)
    where
      go : Dec (x < y) → min (f x) (f y) ≡ f (min x y)
      go (yes l) = let e : min x y ≡ x = omega arith in omega (arith, ap f e, inc x y l)
      go (no l) = let e : min x y ≡ y = omega arith in omega (arith, ap f e, increasing_le y x (omega arith))

  pub max_kept : (x y : ℕ) → max (f x) (f y) ≡ f (max x y)
  max_kept x y = go (dec_lt x y)
    where
      go : Dec (x < y) → max (f x) (f y) ≡ f (max x y)
      go (yes l) = let e : max x y ≡ y = omega arith in omega (arith, ap f e, inc x y l)
      go (no l) = let e : max x y ≡ x = omega arith in omega (arith, ap f e, increasing_le y x (omega arith))
