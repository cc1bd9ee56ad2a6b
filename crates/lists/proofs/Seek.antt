-- What a search finds, both ways: the first number that passes, or that none does. Assumes nothing.
use Rattle.std.specs.Prelude.{Option, Some, None}
use Prim.Native.Nat.{ℕ, zero, suc, ◌+◌, ◌<◌, ◌≤◌}
use native.Mathlib.Omega.{arith}
use native.Mathlib.Decide.{ℕ_discrete, dec_lt}
use mathlib.Core.Path.{◌≡◌, refl, sym, ap, ◌∙◌, subst}
use mathlib.Core.Logic.{◌⊎◌, inl, inr}
use mathlib.Core.Bool.{Bool, true, false, cond, false≢true}
use Rattle.lists.specs.Search.{seek}

-- x is the first of the k numbers from i on that passes
pub record First (p : ℕ → Bool) (i k x : ℕ) : Type 0 where
  pub from : i ≤ x
  pub below : x < i + k
  pub passes : p x ≡ true
  pub none : (j : ℕ) → i ≤ j → j < x → p j ≡ false

-- none of the k numbers from i on passes
abbrev pub NoneOf : (ℕ → Bool) → ℕ → ℕ → Type 0
NoneOf p i k = (j : ℕ) → i ≤ j → j < i + k → p j ≡ false

module _ (p : ℕ → Bool) where
  later : {i k x : ℕ} → p i ≡ false → First p (i + 1) k x → First p i (suc k) x
  later {i} {k} {x} e f =
      record {
        from = omega (arith, f.from);
        below = omega (arith, f.below);
        passes = f.passes;
        none = λ j a b. go j a b (ℕ_discrete j i);
      }
    where
      go : (j : ℕ) → i ≤ j → j < x → Dec (j ≡ i) → p j ≡ false
      go j a b (yes q) = ap p q ∙ e
      go j a b (no n) = f.none j (omega arith) b

  -- what the search gives, with its meaning
  pub seek_cases : (i k : ℕ) → ((x : ℕ) × (seek p i k ≡ Some x) × First p i k x) ⊎ ((seek p i k ≡ None) × NoneOf p i k)
  unfolding seek
  seek_cases i zero = inr (refl, λ j a b. absurd (omega arith))
  seek_cases i (suc k) = go (p i) refl (seek_cases (i + 1) k)
    where
      here : p i ≡ true → First p i (suc k) i
      here e = record { from = omega arith; below = omega arith; passes = e; none = λ j a b. absurd (omega arith) }

      not_here : p i ≡ false → NoneOf p (i + 1) k → (j : ℕ) → i ≤ j → j < i + suc k → Dec (j ≡ i) → p j ≡ false
      not_here e f j a b (yes q) = ap p q ∙ e
      not_here e f j a b (no n) = f j (omega arith) (omega arith)

      go : (b : Bool) → p i ≡ b → ((x : ℕ) × (seek p (i + 1) k ≡ Some x) × First p (i + 1) k x) ⊎ ((seek p (i + 1) k ≡ None) × NoneOf p (i + 1) k)
          → ((x : ℕ) × (cond b (Some i) (seek p (i + 1) k) ≡ Some x) × First p i (suc k) x) ⊎ ((cond b (Some i) (seek p (i + 1) k) ≡ None) × NoneOf p i (suc k))
      go true e below = inl (i, refl, here e)
      go false e (inl f) = inl (f.0, f.1, later e f.2)
      go false e (inr f) = inr (f.0, λ j a b. not_here e f.1 j a b (ℕ_discrete j i))

  at_nothing : {f : Option ℕ} {x : ℕ} → f ≡ Some x → f ≡ None → ⊥
  at_nothing {f} {x} a b = let z : ◌≡◌ {A = ℕ} 0 1 = cc in omega arith

  pub seek_found : {x : ℕ} (i k : ℕ) → seek p i k ≡ Some x → First p i k x
  seek_found {x} i k e = go (seek_cases i k)
    where
      go : ((y : ℕ) × (seek p i k ≡ Some y) × First p i k y) ⊎ ((seek p i k ≡ None) × NoneOf p i k) → First p i k x
      go (inl f) = let q : f.0 ≡ x = cc f.1 in subst (First p i k) q f.2
      go (inr f) = absurd (at_nothing e f.0)

  pub seek_nothing : (i k : ℕ) → seek p i k ≡ None → NoneOf p i k
  seek_nothing i k e = go (seek_cases i k)
    where
      go : ((y : ℕ) × (seek p i k ≡ Some y) × First p i k y) ⊎ ((seek p i k ≡ None) × NoneOf p i k) → NoneOf p i k
      go (inl f) = absurd (at_nothing f.1 e)
      go (inr f) = f.1

  first_one : {i k x y : ℕ} → First p i k x → First p i k y → x ≡ y
  first_one {i} {k} {x} {y} f g = go (dec_lt x y) (dec_lt y x)
    where
      go : Dec (x < y) → Dec (y < x) → x ≡ y
      go (yes l) d = absurd (false≢true (sym (g.none x f.from l) ∙ f.passes))
      go (no l) (yes h) = absurd (false≢true (sym (f.none y g.from h) ∙ g.passes))
      go (no l) (no h) = omega arith

  pub seek_first : {x : ℕ} (i k : ℕ) → First p i k x → seek p i k ≡ Some x
  seek_first {x} i k g = go (seek_cases i k)
    where
      go : ((y : ℕ) × (seek p i k ≡ Some y) × First p i k y) ⊎ ((seek p i k ≡ None) × NoneOf p i k) → seek p i k ≡ Some x
      go (inl f) = f.1 ∙ ap Some (first_one f.2 g)
      go (inr f) = absurd (false≢true (sym (f.1 x g.from g.below) ∙ g.passes))

  pub seek_none : (i k : ℕ) → NoneOf p i k → seek p i k ≡ None
  seek_none i k g = go (seek_cases i k)
    where
      go : ((y : ℕ) × (seek p i k ≡ Some y) × First p i k y) ⊎ ((seek p i k ≡ None) × NoneOf p i k) → seek p i k ≡ None
      go (inl f) = absurd (false≢true (sym (g f.0 f.2.from f.2.below) ∙ f.2.passes))
      go (inr f) = f.0

  -- of one number more than k, where none of the k passes
  pub seek_last : (i k : ℕ) → NoneOf p i k → seek p i (suc k) ≡ cond (p (i + k)) (Some (i + k)) None
  seek_last i k g = go (p (i + k)) refl
    where
      others : p (i + k) ≡ false → (j : ℕ) → i ≤ j → j < i + suc k → Dec (j ≡ i + k) → p j ≡ false
      others e j a b (yes q) = ap p q ∙ e
      others e j a b (no n) = g j a (omega arith)

      go : (b : Bool) → p (i + k) ≡ b → seek p i (suc k) ≡ cond b (Some (i + k)) None
      go true e = seek_first i (suc k) (record { from = omega arith; below = omega arith; passes = e; none = g })
      go false e = seek_none i (suc k) (λ j a b. others e j a b (ℕ_discrete j (i + k)))
