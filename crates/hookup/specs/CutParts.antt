-- The checks of a call with document 01's check 10 in the place of request 2026-14's, and what a call answers by these. Assumes nothing.
use Rattle.std.specs.Prelude.{ℕ, List, [], ◌∷◌, ◌++◌}
use Rattle.checks.specs.declared.Fault.TheVariants as faults
use Rattle.checks.specs.Checks.{Check, first_refusal}
use Rattle.checks.specs.Outcome.{if_passed}
use Rattle.station.specs.Station.{station_of}
use Rattle.station.specs.Checks.{list_checks}
use Rattle.order.specs.Reach.{check9}
use Rattle.order.specs.CutParts.{cut_part}
use Rattle.hookup.specs.declared.Options.{Options}
use Rattle.hookup.specs.Checks.{option_checks, drawing_checks}
use Rattle.hookup.specs.Drawing.{drawing}
use Rattle.hookup.specs.Outcome.{Outcome, sheet_in}

-- 12 and 13, 1 to 8, and 9
unfoldable pub before10 : Options → List Check
before10 options = (option_checks options ++ list_checks) ++ record { fault = faults.UnreachedPart; finds = λ list. check9 (station_of list) } ∷ []

-- 10: 'a part whose removal leaves two others without a path', 'lowest such part'
abbrev pub cut_check : Check
cut_check = record { fault = faults.SeparatingPart; finds = λ list. cut_part (station_of list) }

-- those before 10, document 01's 10, and 14
unfoldable pub checks_with_cut : Options → List Check
checks_with_cut options = before10 options ++ cut_check ∷ drawing_checks options

unfoldable pub outcome_with_cut : Options → List ℕ → ℕ → Outcome
outcome_with_cut options list room = if_passed (first_refusal (checks_with_cut options) list) (sheet_in options (drawing (station_of list)) room)
