-- The steps of the tables, case by case. Assumes nothing.
use Prim.Native.Nat.{ℕ, ◌*◌, ◌%◌, ◌^◌, ◌<◌}
use native.Mathlib.Omega.{arith}
use mathlib.Core.Path.{◌≡◌, ◌∙◌}
use lib.Pow.{shl_exact}

-- a bit below 32 does not leave the word
pub bit_shifted : (b : ℕ) → b < 32 → (1 * 2 ^ b) % 4294967296 ≡ 2 ^ b
bit_shifted b h = shl_exact {a = 1} 1 b 32 (omega arith) (omega (arith, h)) ∙ mul_one
  where
    mul_one : 1 * 2 ^ b ≡ 2 ^ b
    mul_one = omega arith
