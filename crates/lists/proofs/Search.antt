-- Laws of seek. In a loop that searches from i up to n the invariant is `place ≡ seek p i (n - i)`: seek_at, seek_next and seek_end are
-- what a hit, a turn and the loop's end need. Assumes nothing.
use Rattle.std.specs.Prelude.{Option, Some, None}
use Prim.Native.Nat.{ℕ, suc, ◌+◌, ◌-◌, ◌≤◌, ◌<◌}
use mathlib.Core.Path.{◌≡◌, refl, ◌∙◌}
use mathlib.Core.Bool.{Bool, true, false, cond, true≢false}
use native.Mathlib.Omega.{arith}
use Rattle.lists.specs.Search.{seek, is_found}

module _ (p : ℕ → Bool) where
  -- one turn
  pub seek_step : (i n : ℕ) → i < n → seek p i (n - i) ≡ cond (p i) (Some i) (seek p (i + 1) (n - (i + 1)))
  unfolding seek
  seek_step i n h = let e : n - i ≡ suc (n - (i + 1)) = omega arith in rw e

  pub seek_at : (i n : ℕ) → i < n → p i ≡ true → seek p i (n - i) ≡ Some i
  seek_at i n h e = seek_step i n h ∙ rw e

  pub seek_next : (i n : ℕ) → i < n → p i ≡ false → seek p i (n - i) ≡ seek p (i + 1) (n - (i + 1))
  seek_next i n h e = seek_step i n h ∙ rw e

  pub seek_end : (i n : ℕ) → n ≤ i → seek p i (n - i) ≡ None
  unfolding seek
  seek_end i n h = let e : n - i ≡ 0 = omega arith in rw e

pub not_found : (f : Option ℕ) → is_found f ≡ false → f ≡ None
not_found (Some i) e = absurd (true≢false e)
not_found None e = refl
