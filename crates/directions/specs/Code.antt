-- What the code reads of one cable and of its line, in the terms of the definitions. Assumes nothing.
use Rattle.std.specs.Prelude.{ℕ, ◌+◌, ◌<◌, ◌≡◌, Bool, true, false, not, ◌&&◌, List, [], ◌∷◌, length, get_or, map, take, drop, eqb}
use Rattle.words.specs.Words.{second_of}
use Rattle.checks.specs.Checks.{Clear}
use Rattle.station.specs.Station.{Station, no_cable, station_of}
use Rattle.order.specs.Checks.{all_checks}
use Rattle.geometry.specs.Spots.{Spot, spot_in}
use Rattle.drawing.specs.Drawing.{Drawing, spot_of, route_at}
use Rattle.drawing.specs.Reading.{word_spot}
use Rattle.validation.specs.Facing.{line_over}
use Rattle.validation.specs.Layout.{cable_place, Follows}
use Rattle.validation.specs.Directions.{directed}
use Rattle.validation.specs.Rules.{ends_at}
use Rattle.sweep.specs.Boards as tables
use Rattle.directions.specs.declared.strands.Line.{Line}
use Rattle.directions.specs.declared.strands.Strand.{Strand}

-- a cable's line and its parts
abbrev pub strand_in : Strand → tables.Strand
strand_in c = record { line = c.line; one = c.one.0; other = c.other.0 }

-- a run of nonzero length, level or upright
abbrev pub run_of : Bool → Spot → Spot → Bool
run_of true p q = eqb p.y q.y && not (eqb p.x q.x)
run_of false p q = eqb p.x q.x && not (eqb p.y q.y)

-- the first run of a line is level
abbrev pub level_first : Spot → List Spot → Spot → Bool
level_first p [] last = eqb p.y last.y
level_first p (c ∷ cs) last = eqb p.y c.y

-- runs that alternate, the first of this kind
unfoldable pub alternating : Bool → Spot → List Spot → Spot → Bool
alternating level p [] last = run_of level p last
alternating level p (c ∷ cs) last = run_of level p c && alternating (not level) c cs last

-- the cable at a line in one direction
abbrev pub strand_for : List ℕ → ℕ → Bool → tables.Strand
strand_for list line forward =
    let e = directed forward (get_or (station_of list).cables line no_cable) in record { line = line; one = e.first; other = e.last }

-- the words of the corners of the cable whose word stands at this place
abbrev pub corner_words : List ℕ → ℕ → List ℕ
corner_words sheet at = take (second_of (get_or sheet at 0)) (drop (at + 1) sheet)

-- a list that passed, a sheet that follows the layout, and a cable, with the words of its corners
pub record CornersOf (list sheet : List ℕ) (line : ℕ) (corners : List ℕ) : Type 0 where
  pub passed : Clear all_checks list
  pub layout : Follows (station_of list).parts (length (station_of list).cables) sheet
  pub is_line : line < length (station_of list).cables
  pub words : corners ≡ corner_words sheet (cable_place (station_of list).parts sheet line)

-- the words of the strand's two parts are in the sheet
pub record InSheet (sheet : List ℕ) (c : Strand) : Type 0 where
  pub one : 1 + c.one.0 < length sheet
  pub other : 1 + c.other.0 < length sheet

-- a cable's line: its two ends, and its corners in between
pub record Trace : Type 0 where
  pub first : Spot
  pub corners : List Spot
  pub last : Spot

abbrev pub points_along : Trace → List Spot
points_along t = line_over t.first t.corners t.last

-- as the code has it, off a sheet with the words of its corners, and of a drawing in a direction
abbrev pub trace_of : Line → Trace
trace_of l = record { first = spot_in l.first; corners = map word_spot l.corners.now; last = spot_in l.last }

abbrev pub trace_off : List ℕ → tables.Strand → List ℕ → Trace
trace_off sheet c corners = record {
  first = word_spot (get_or sheet (1 + c.one) 0);
  corners = map word_spot corners;
  last = word_spot (get_or sheet (1 + c.other) 0);
}

abbrev pub trace_at : Station → Drawing → Bool → ℕ → Trace
trace_at st d forward line = record {
  first = spot_of d (ends_at st forward line).first;
  corners = (route_at d line).corners;
  last = spot_of d (ends_at st forward line).last;
}
