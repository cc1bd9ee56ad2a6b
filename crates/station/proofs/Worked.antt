-- Document 01's triangle passes checks 1 to 8, and of two checks that apply to a list the earlier is the refusal. Assumes nothing.
use mathlib.Core.Path.{◌≡◌, refl}
use mathlib.Core.List.{[], ◌∷◌}
use Rattle.checks.specs.declared.Fault.TheVariants as faults
use Rattle.checks.specs.Checks.{first_refusal, passed, refused}
use Rattle.station.specs.Checks.{list_checks}
use Rattle.station.proofs.Computing.{station_computing}

record Worked : Type 0 where
  triangle : first_refusal list_checks (0x10030003 ∷ 0x20000002 ∷ 0x30000001 ∷ 0x30001002 ∷ 0x30000002 ∷ []) ≡ passed
  -- a spare bit of the last word, where the count of words is wrong too
  two_before_three : first_refusal list_checks (0x10030003 ∷ 0x20000002 ∷ 0x31000001 ∷ []) ≡ refused faults.MisplacedWord 2
  -- 2026-12: a repeated cable passes, straight and turned round
  repeated : first_refusal list_checks (0x10030003 ∷ 0x20000002 ∷ 0x30000001 ∷ 0x30000001 ∷ 0x30001000 ∷ []) ≡ passed
  five_before_six : first_refusal list_checks (0x10030001 ∷ 0x20001001 ∷ 0x30000003 ∷ []) ≡ refused faults.PartOutside 2

worked : Worked
unfolding station_computing
worked = record {
  triangle = refl;
  two_before_three = refl;
  repeated = refl;
  five_before_six = refl;
}
