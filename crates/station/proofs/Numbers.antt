-- The numbers that a refusal by checks 1 to 8, or by these and the ones behind them, can have: 'check 7 no longer occurs and its number
-- stays empty' (request 2026-12). Assumes nothing.
use Rattle.checks.specs.declared.Fault.{Fault}
use Prim.Native.Nat.{ℕ, ◌+◌, ◌≤◌}
use native.Mathlib.Omega.{arith}
use mathlib.Core.Path.{◌≡◌, refl, subst}
use mathlib.Core.Logic.{◌⊎◌, inl, inr}
use mathlib.Core.List.Memᴰ
use mathlib.Core.List.{List, ◌++◌, map, Memᴰ}
use Rattle.lists.specs.Select.{up_from}
use Rattle.lists.proofs.Select.{up_from_e}
use Rattle.checks.specs.Checks.{Check, first_refusal, refused, number_of}
use Rattle.checks.proofs.FirstRefusal.{refused_number}
use Rattle.station.specs.Checks.{list_checks}
use Rattle.station.proofs.Computing.{station_computing}

pub record Numbered (last check : ℕ) : Type 0 where
  pub least : 1 ≤ check
  pub most : check ≤ last
  pub not_7 : check ≡ 7 → ⊥

-- 1 to 6, and k numbers from 8 on
pub without_7 : (k : ℕ) {check : ℕ} → Memᴰ check (up_from 1 6 ++ up_from 8 k) → Numbered (7 + k) check
without_7 k {check} m = go (Memᴰ.append_cases (up_from 1 6) m)
  where
    go : Memᴰ check (up_from 1 6) ⊎ Memᴰ check (up_from 8 k) → Numbered (7 + k) check
    go (inl n) = let b = up_from_e 1 6 n in record { least = b.0; most = omega (arith, b.1); not_7 = λ h. omega (arith, b.1) }
    go (inr n) = let b = up_from_e 8 k n in record { least = omega (arith, b.0); most = omega (arith, b.1); not_7 = λ h. omega (arith, b.0) }

numbered : map (λ (c : Check). number_of c.fault) list_checks ≡ up_from 1 6 ++ up_from 8 1
unfolding station_computing
numbered = refl

pub list_number : (list : List ℕ) {check : Fault} {place : ℕ} → first_refusal list_checks list ≡ refused check place → Numbered 8 (number_of check)
list_number list {check} e = without_7 1 (subst (Memᴰ (number_of check)) numbered (refused_number list list_checks e))
