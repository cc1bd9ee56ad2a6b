-- What the code of the sweep keeps and reads, in the terms of its definitions. Assumes nothing.
use Rattle.std.specs.Prelude.{ℕ, ◌≡◌, Bool, List, [], eqb}
use Rattle.lists.specs.Select.{cons_if}
use Rattle.station.specs.Station.{station_of}
use Rattle.geometry.specs.Spots.{Spot}
use Rattle.drawing.specs.Drawing.{Drawing}
use Rattle.sweep.specs.Visits.{Visit, visit_at, line_visits}
use Rattle.sweep.specs.Boards as tables
use Rattle.sweep.specs.Boards.{visits_alone, visits_pair}
use Rattle.sweep.specs.Sweep.{parts_marked, lines_alone, lines_pair}
use Rattle.sweep.specs.Judged.{faced_drawing}
use Rattle.boards.specs.declared.Boards.{Boards}
use Rattle.directions.specs.Code.{Trace}

-- a point of the line in row y, as a corner or as an end
unfoldable pub point_visits : ℕ → Spot → Bool → List Visit
point_visits y s corner = cons_if (eqb s.y y) (visit_at s.x corner corner) []

-- the visits of a line in row y
abbrev pub visits_along : ℕ → Trace → List Visit
visits_along y t = line_visits y t.first t.corners t.last

-- these visits, in the row that is swept, take the tables from the first to the last
pub record Visited (c : tables.Strand) (before : Boards) (vs : List Visit) (after : Boards) : Type 0 where
  pub row : after.row ≡ before.row
  pub alone : after.alone ≡ visits_alone before.row c before.alone vs
  pub pairs : after.pairs ≡ visits_pair before.row c.line before.pairs vs

-- and so the marks of these parts
pub record Marked (before : Boards) (parts : List Spot) (after : Boards) : Type 0 where
  pub row : after.row ≡ before.row
  pub alone : after.alone ≡ parts_marked before.row before.alone 0 parts
  pub pairs : after.pairs ≡ before.pairs

-- and the lines of a drawing
pub record LinesSwept (d : Drawing) (before after : Boards) : Type 0 where
  pub row : after.row ≡ before.row
  pub alone : after.alone ≡ lines_alone d before.row before.alone 0 d.routes
  pub pairs : after.pairs ≡ lines_pair d before.row before.pairs 0 d.routes

-- the drawing of the first cables of a list
abbrev pub drawn_in : List ℕ → List ℕ → List Bool → ℕ → Drawing
drawn_in list sheet forward lines = faced_drawing (station_of list) sheet forward lines
