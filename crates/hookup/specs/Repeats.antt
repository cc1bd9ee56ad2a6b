-- The checks of a call with document 01's check 7 among them, which request 2026-12 takes out, and what a call answers by these. Assumes
-- nothing.
use Rattle.std.specs.Prelude.{ℕ, ◌≡◌, List, ◌∷◌, ◌++◌, Option, Some, None, Ok, Err}
use Rattle.checks.specs.declared.Fault.TheVariants as faults
use Rattle.checks.specs.Checks.{Check, Verdict, passed, first_refusal}
use Rattle.checks.specs.Outcome.{if_passed}
use Rattle.station.specs.Station.{station_of}
use Rattle.station.specs.Checks.{check8}
use Rattle.station.specs.Code.{up_to}
use Rattle.station.specs.Repeats.{first_repeat}
use Rattle.order.specs.Checks.{station_checks}
use Rattle.hookup.specs.declared.Options.{Options}
use Rattle.hookup.specs.Checks.{option_checks, drawing_checks}
use Rattle.hookup.specs.Drawing.{drawing}
use Rattle.hookup.specs.Outcome.{Outcome, sheet_in}

-- What was answered with document 01's checks: a refusal by a number that no fault has now, or what is answered by the faults that there
-- are.
pub data Then (A : Type 0) : Type 0 where
  refused_then : (number place : ℕ) → Then A
  as_now : A → Then A

-- 7 between the checks before and behind it: 'a cable joins the same two parts as an earlier one, either way round', 'first such later word'
abbrev pub check7 : Verdict → Option ℕ → Verdict → Then Verdict
check7 (Err r) found behind = as_now (Err r)
check7 (Ok u) (Some place) behind = refused_then 7 place
check7 (Ok u) None behind = as_now behind

-- 12 and 13, and 1 to 6
abbrev pub before7 : Options → List Check
before7 options = option_checks options ++ up_to 6

-- 8 to 10, and 14
abbrev pub behind7 : Options → List Check
behind7 options = record { fault = faults.CrowdedPart; finds = check8 } ∷ station_checks ++ drawing_checks options

-- 12 and 13, 1 to 6, 7, and those behind it
unfoldable pub checks_with7 : Options → List ℕ → Then Verdict
checks_with7 options list = check7 (first_refusal (before7 options) list) (first_repeat list) (first_refusal (behind7 options) list)

abbrev pub answered_then : Then Verdict → Outcome → Then Outcome
answered_then (refused_then number place) o = refused_then number place
answered_then (as_now v) o = as_now (if_passed v o)

unfoldable pub outcome_with7 : Options → List ℕ → ℕ → Then Outcome
outcome_with7 options list room = answered_then (checks_with7 options list) (sheet_in options (drawing (station_of list)) room)

-- a list passed with 7 among the checks
abbrev pub ClearWith7 : Options → List ℕ → Type 0
ClearWith7 options list = checks_with7 options list ≡ as_now passed
