-- The first refusal of checks 1 to 10, from what each stage finds: checks 1 to 8 together, then 9, then 10. Assumes nothing.
use Rattle.checks.specs.declared.Fault.{Fault}
use Rattle.std.specs.Prelude.{Some, None}
use Prim.Native.Nat.{ℕ}
use mathlib.Core.Path.{◌≡◌, ◌∙◌}
use mathlib.Core.List.{List, [], ◌∷◌}
use Rattle.checks.specs.declared.Fault.TheVariants as faults
use Rattle.checks.specs.Checks.{first_refusal, Clear, refused}
use Rattle.checks.proofs.FirstRefusal.{no_check, rest_decides, first_found, refused_before, clear_append, clear_more}
use Rattle.station.specs.Station.{station_of}
use Rattle.station.specs.Checks.{list_checks}
use Rattle.order.specs.Reach.{check9, check10}
use Rattle.order.specs.Checks.{station_checks, all_checks}

module _ (list : List ℕ) where
  pub refused_8 : (c : Fault) (p : ℕ) → first_refusal list_checks list ≡ refused c p → first_refusal all_checks list ≡ refused c p
  unfolding all_checks
  refused_8 c p e = refused_before list list_checks station_checks c p e

  module _ (clear : Clear list_checks list) where
    pub refused_9 : (p : ℕ) → check9 (station_of list) ≡ Some p → first_refusal all_checks list ≡ refused faults.UnreachedPart p
    unfolding all_checks station_checks
    refused_9 p e = first_found list list_checks _ _ p clear e

    module _ (none : check9 (station_of list) ≡ None) where
      nine : Clear (record { fault = faults.UnreachedPart; finds = λ l. check9 (station_of l) } ∷ []) list
      nine = clear_more list [] (record { fault = faults.UnreachedPart; finds = λ l. check9 (station_of l) }) (no_check list) none

      pub refused_10 : (p : ℕ) → check10 (station_of list) ≡ Some p → first_refusal all_checks list ≡ refused faults.SeparatingPart p
      unfolding all_checks station_checks
      refused_10 p e =
          rest_decides list list_checks _ clear
          ∙ first_found list (record { fault = faults.UnreachedPart; finds = λ l. check9 (station_of l) } ∷ []) (record { fault = faults.SeparatingPart; finds = λ l. check10 (station_of l) }) [] p nine e

      pub all_clear : check10 (station_of list) ≡ None → Clear all_checks list
      unfolding all_checks station_checks
      all_clear e =
          clear_append list list_checks _ clear
          (clear_more list (record { fault = faults.UnreachedPart; finds = λ l. check9 (station_of l) } ∷ []) (record { fault = faults.SeparatingPart; finds = λ l. check10 (station_of l) }) nine e)
