-- The checks of a call with any limit of parts in the place of check 4's, and what a call answers by these (2026-11). Assumes nothing.
use Rattle.std.specs.Prelude.{ℕ, List, ◌++◌}
use Rattle.checks.specs.Checks.{Check, first_refusal}
use Rattle.checks.specs.Outcome.{if_passed}
use Rattle.station.specs.Station.{station_of}
use Rattle.station.specs.PartLimit.{list_checks_within}
use Rattle.order.specs.Checks.{station_checks}
use Rattle.hookup.specs.declared.Options.{Options}
use Rattle.hookup.specs.Checks.{option_checks, drawing_checks}
use Rattle.hookup.specs.Drawing.{drawing}
use Rattle.hookup.specs.Outcome.{Outcome, sheet_in}

-- 12 and 13, 1 to 8 with the limit, 9 and 10, and 14
unfoldable pub checks_within : ℕ → Options → List Check
checks_within most options = (option_checks options ++ (list_checks_within most ++ station_checks)) ++ drawing_checks options

unfoldable pub outcome_within : ℕ → Options → List ℕ → ℕ → Outcome
outcome_within most options list room =
    if_passed (first_refusal (checks_within most options) list) (sheet_in options (drawing (station_of list)) room)
