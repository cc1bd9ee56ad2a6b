-- The numbers that a refusal of a sheet can have: those of checks 1 to 10, 19 and 20. Assumes nothing.
use Rattle.checks.specs.declared.Fault.{Fault}
use Prim.Native.Nat.{ℕ, ◌≤◌}
use native.Mathlib.Omega.{arith}
use mathlib.Core.Path.{◌≡◌, refl, subst}
use mathlib.Core.Logic.{◌⊎◌, inl, inr}
use mathlib.Core.List.Memᴰ
use mathlib.Core.List.{List, ◌++◌, map, Memᴰ}
use Rattle.lists.specs.Select.{up_from}
use Rattle.lists.proofs.Select.{up_from_e}
use Rattle.checks.specs.Checks.{Check, refused, number_of}
use Rattle.checks.proofs.FirstRefusal.{refused_number}
use Rattle.station.proofs.Numbers.{Numbered, without_7}
use Rattle.validation.specs.Outcome.{sheet_checks, sheet_verdict}
use Rattle.validation.proofs.Computing.{validation_computing}

-- one of these numbers
abbrev pub SheetNumbered : ℕ → Type 0
SheetNumbered check = Numbered 10 check ⊎ ((19 ≤ check) × (check ≤ 20))

numbers : (sheet : List ℕ) → map (λ (c : Check). number_of c.fault) (sheet_checks sheet) ≡ (up_from 1 6 ++ up_from 8 3) ++ up_from 19 2
unfolding validation_computing
numbers sheet = refl

pub sheet_refusals : (list sheet : List ℕ) {check : Fault} {place : ℕ} → sheet_verdict list sheet ≡ refused check place → SheetNumbered (number_of check)
unfolding sheet_verdict
sheet_refusals list sheet {check} e =
    go (Memᴰ.append_cases (up_from 1 6 ++ up_from 8 3) {t = up_from 19 2}
    (subst (Memᴰ (number_of check)) (numbers sheet) (refused_number list (sheet_checks sheet) e)))
  where
    go : Memᴰ (number_of check) (up_from 1 6 ++ up_from 8 3) ⊎ Memᴰ (number_of check) (up_from 19 2) → SheetNumbered (number_of check)
    go (inl m) = inl (without_7 3 m)
    go (inr m) = let b = up_from_e 19 2 m in inr (b.0, omega (arith, b.1))
