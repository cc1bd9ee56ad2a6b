-- What can be swept. Assumes nothing.
use Rattle.std.specs.Prelude.{ℕ, ◌<◌, ◌≤◌, Bool, List, length, get_or}
use Rattle.checks.specs.Checks.{Clear}
use Rattle.station.specs.Station.{station_of}
use Rattle.order.specs.Checks.{all_checks}
use Rattle.drawing.specs.Drawing.{route_at}
use Rattle.validation.specs.Layout.{Follows}
use Rattle.sweep.specs.Sweep.{route_visits}
use Rattle.sweep.specs.Judged.{faced_drawing}
use Rattle.sweeping.specs.Rows.{NoneOutside, no_span}
use Rattle.sweeping.specs.declared.spans.Span.{Span}

-- a list that passed, a sheet that follows the layout, and a flag for each of the first cables
pub record Sweepable (list sheet : List ℕ) (forward : List Bool) (lines : ℕ) : Type 0 where
  pub passed : Clear all_checks list
  pub layout : Follows (station_of list).parts (length (station_of list).cables) sheet
  pub flags : lines ≤ length forward
  pub few : lines ≤ length (station_of list).cables

-- a span for each of the first cables, outside of which its line has no spot
pub record Spans (list sheet : List ℕ) (forward : List Bool) (lines : ℕ) (spans : List Span) : Type 0 where
  pub long : lines ≤ length spans
  pub outside :
      (i : ℕ) → i < lines
      → NoneOutside (get_or spans i no_span)
      (λ y. let d = faced_drawing (station_of list) sheet forward lines in route_visits d y (route_at d i))
