-- Request 2026-09: what is accepted, and what the call answers for a list and a sheet. Assumes nothing.
use Rattle.std.specs.Prelude.{◌≡◌, List, [], ◌∷◌, ◌++◌, ℕ, length}
use Rattle.checks.specs.declared.Fault.TheVariants as faults
use Rattle.checks.specs.Checks.{Check, Clear, first_refusal, Verdict, passed}
use Rattle.station.specs.Station.{station_of}
use Rattle.order.specs.Checks.{all_checks}
use Rattle.drawing.specs.Drawing.{Meets}
use Rattle.drawing.specs.Reading.{Endpoints, drawing_in}
use Rattle.validation.specs.Layout.{check19, Follows}
use Rattle.validation.specs.Directions.{Directed}
use Rattle.validation.specs.Rules.{check20}

-- 'It is accepted exactly if its words follow the layout, no point exceeds its head, and every cable joins its own parts by alternating
-- level and upright runs of nonzero length with the meetings that our sheets allow between two cables and between cable and part, and no
-- cable touches itself. Corners may run from either end': of a list that passes checks 1 to 10
pub record Accepted (list sheet : List ℕ) : Type 0 where
  pub layout : Follows (station_of list).parts (length (station_of list).cables) sheet
  pub ends : List Endpoints
  pub directions : Directed (station_of list).cables ends
  pub meetings : Meets (drawing_in (station_of list).parts ends sheet)

-- 'Turned away: 19 .. 20', behind checks 1 to 10
unfoldable pub sheet_checks : List ℕ → List Check
sheet_checks sheet =
    all_checks
    ++ record { fault = faults.OutOfLayout; finds = λ list. check19 (station_of list).parts (length (station_of list).cables) sheet }
    ∷ record { fault = faults.BrokenRule; finds = λ list. check20 (station_of list) sheet }
    ∷ []

-- the answer for a list and a sheet
unfoldable pub sheet_verdict : List ℕ → List ℕ → Verdict
sheet_verdict list sheet = first_refusal (sheet_checks sheet) list

-- A call: its answer, and that it accepts exactly what is to be accepted.
pub record Validates (list sheet : List ℕ) (verdict : Verdict) : Type 0 where
  pub answers : verdict ≡ sheet_verdict list sheet
  pub accepts : verdict ≡ passed → Clear all_checks list × Accepted list sheet
  pub accepted : Clear all_checks list → Accepted list sheet → verdict ≡ passed
