-- A new cable's word is read as it was made. Assumes nothing.
use Prim.Native.Nat.{ℕ, ◌≤◌}
use native.Mathlib.Omega.{arith}
use mathlib.Core.Path.{◌≡◌}
use Rattle.words.specs.Words.{first_of, second_of, cable_word}
use Rattle.words.specs.Limits.{most_field}

module _ (one other : ℕ) (a : one ≤ most_field) (b : other ≤ most_field) where
  pub first_is : first_of (cable_word one other) ≡ one
  first_is = omega arith

  pub second_is : second_of (cable_word one other) ≡ other
  second_is = omega arith
