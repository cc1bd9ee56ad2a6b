-- The decimal digits of a number mean that number: twenty are enough for 64 bits. Assumes nothing.
use Prim.Native.Nat.{ℕ, zero, suc, ◌+◌, ◌-◌, ◌*◌, ◌/◌, ◌%◌, ◌^◌, ◌<◌}
use Prim.Native.Char.{code}
use mathlib.Core.Path.{◌≡◌, refl, ◌∙◌, ap}
use mathlib.Core.Bool.{Bool, true, false, cond}
use mathlib.Core.List.{List, [], ◌∷◌, ◌++◌}
use native.Mathlib.Omega.{arith}
use lib.Dec.{ltb}
use Rattle.text.specs.Lines.{digits, decimal}

-- the number that decimal digits mean, behind those that mean a
abbrev pub value : ℕ → List ℕ → ℕ
value a [] = a
value a (d ∷ ds) = value (a * 10 + (d - code "0")) ds

value_append : (a : ℕ) (xs ys : List ℕ) → value a (xs ++ ys) ≡ value (value a xs) ys
value_append a [] ys = refl
value_append a (x ∷ xs) ys = value_append (a * 10 + (x - code "0")) xs ys

abbrev tens : ℕ → ℕ
tens zero = 1
tens (suc k) = 10 * tens k

digits_value : (k x : ℕ) → x < tens k → value 0 (digits k x) ≡ x
unfolding digits
digits_value zero x h = omega arith
digits_value (suc k) x h = go (ltb x 10) refl (λ l. digits_value k (x / 10) l)
  where
    go : (b : Bool) → ltb x 10 ≡ b → (x / 10 < tens k → value 0 (digits k (x / 10)) ≡ x / 10)
        → value 0 (cond b ((code "0" + x) ∷ []) (digits k (x / 10) ++ (code "0" + x % 10) ∷ [])) ≡ x
    go true t below = omega arith
    go false t below =
        value_append 0 (digits k (x / 10)) ((code "0" + x % 10) ∷ [])
        ∙ ap (λ (v : ℕ). v * 10 + (code "0" + x % 10 - code "0")) (below (omega arith))
        ∙ omega arith

pub decimal_value : (x : ℕ) → x < 2 ^ 64 → value 0 (decimal x) ≡ x
unfolding decimal
decimal_value x h = digits_value _ x (omega arith)
