-- Putting columns in: `moved` is strictly increasing. Assumes nothing.
use Prim.Native.Nat.{ℕ, ◌+◌, ◌<◌, ◌≤◌}
use native.Mathlib.Omega.{arith}
use native.Mathlib.Decide.{dec_lt, ℕ_discrete}
use mathlib.Core.Path.{◌≡◌}
use borrow.Author.Tests.{lt-ltb, le-ltb, eq-eqb, ne_eqb}
use Rattle.lists.proofs.Increasing.{Increasing}
use Rattle.layout.specs.Columns.{moved}

module _ (p a b : ℕ) where
  pub moved_left : (x : ℕ) → x < p → moved p a b x ≡ x
  unfolding moved
  moved_left x h = rw (lt-ltb x p h)

  pub moved_at : (x : ℕ) → x ≡ p → moved p a b x ≡ x + a
  unfolding moved
  moved_at x e = rw (le-ltb x p (omega arith), eq-eqb x p e)

  pub moved_right : (x : ℕ) → p < x → moved p a b x ≡ x + a + b
  unfolding moved
  moved_right x h = rw (le-ltb x p (omega arith), ne_eqb x p (omega arith))

  pub moved_increasing : Increasing (moved p a b)
  moved_increasing x y h = go (dec_lt x p) (ℕ_discrete x p) (dec_lt y p) (ℕ_discrete y p)
    where
      go : Dec (x < p) → Dec (x ≡ p) → Dec (y < p) → Dec (y ≡ p) → moved p a b x < moved p a b y
      go (yes s) d (yes t) e = omega (arith, moved_left x s, moved_left y t)
      go (yes s) d (no t) (yes u) = omega (arith, moved_left x s, moved_at y u)
      go (yes s) d (no t) (no u) = omega (arith, moved_left x s, moved_right y (omega arith))
      go (no s) (yes t) (yes u) e = absurd (omega arith)
      go (no s) (yes t) (no u) (yes v) = absurd (omega arith)
      go (no s) (yes t) (no u) (no v) = omega (arith, moved_at x t, moved_right y (omega arith))
      go (no s) (no t) (yes u) e = absurd (omega arith)
      go (no s) (no t) (no u) (yes v) = absurd (omega arith)
      go (no s) (no t) (no u) (no v) = omega (arith, moved_right x (omega arith), moved_right y (omega arith))

  -- a column other than p is not in the block from p to p + a + b
  pub moved_outside : (x : ℕ) → (x ≡ p → ⊥) → p ≤ moved p a b x → moved p a b x ≤ p + a + b → ⊥
  moved_outside x n = go (dec_lt x p)
    where
      go : Dec (x < p) → p ≤ moved p a b x → moved p a b x ≤ p + a + b → ⊥
      go (yes s) = omega (arith, moved_left x s)
      go (no s) = omega (arith, moved_right x (omega arith))

  -- what is then left of column p + a, where p now is, was left of p; and likewise right of it
  pub moved_from_left : (x : ℕ) → moved p a b x < p + a → x < p
  moved_from_left x h = go (dec_lt x p) (ℕ_discrete x p)
    where
      go : Dec (x < p) → Dec (x ≡ p) → x < p
      go (yes s) d = s
      go (no s) (yes t) = absurd (omega (arith, moved_at x t))
      go (no s) (no t) = absurd (omega (arith, moved_right x (omega arith)))

  pub moved_from_right : (x : ℕ) → p + a < moved p a b x → p < x
  moved_from_right x h = go (dec_lt x p) (ℕ_discrete x p)
    where
      go : Dec (x < p) → Dec (x ≡ p) → p < x
      go (yes s) d = absurd (omega (arith, moved_left x s))
      go (no s) (yes t) = absurd (omega (arith, moved_at x t))
      go (no s) (no t) = omega arith

  pub moved_none : (x : ℕ) → a ≡ 0 → b ≡ 0 → moved p a b x ≡ x
  moved_none x e f = go (dec_lt x p) (ℕ_discrete x p)
    where
      go : Dec (x < p) → Dec (x ≡ p) → moved p a b x ≡ x
      go (yes s) d = moved_left x s
      go (no s) (yes t) = omega (arith, moved_at x t)
      go (no s) (no t) = omega (arith, moved_right x (omega arith))

  -- how far a column that was there moves
  pub moved_le : (x : ℕ) → moved p a b x ≤ x + a + b
  moved_le x = go (dec_lt x p) (dec_lt p x)
    where
      go : Dec (x < p) → Dec (p < x) → moved p a b x ≤ x + a + b
      go (yes l) d = omega (arith, moved_left x l)
      go (no l) (yes g) = omega (arith, moved_right x g)
      go (no l) (no g) = omega (arith, moved_at x (omega arith))
