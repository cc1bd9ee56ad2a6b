-- What the contracts say of the courses: of what all of them share, and of one. Assumes nothing.
use Rattle.std.specs.Prelude.{ℕ, ◌+◌, ◌<◌, ◌≤◌, ◌≡◌, cond, List, length, get_or, eqb}
use Rattle.words.specs.Limits.{most_parts}
use Rattle.geometry.specs.Spots.{spot_at}
use Rattle.order.specs.Graph.{StGraph}
use Rattle.layout.specs.Columns.{bottom_line, top_line}
use Rattle.layout.specs.Points.{Course, bottom_rows, top_rows}
use Rattle.placement.specs.declared.connections.Connections.{Connections}
use Rattle.placement.specs.declared.courses.PlacedCable.{PlacedCable}

-- what the courses of the graph's cables share
pub record ConnectionsOf (G : StGraph) (e : Connections) : Type 0 where
  pub bottom_rows_lem : e.bottom_rows ≡ bottom_rows G
  pub top_rows_lem : e.top_rows ≡ top_rows G
  pub bottom_line_lem : e.bottom_line ≡ bottom_line G
  pub top_line_lem : e.top_line ≡ top_line G

-- the cable's parts are among the n whose columns are given, and its rows are within 16 bits
pub record Reaches (n : ℕ) (e : Connections) (c : PlacedCable) : Type 0 where
  pub lower_part : c.span.lower.0 < n
  pub upper_part : c.span.upper.0 < n
  pub most : n ≤ most_parts
  pub below : e.bottom_rows ≤ 1

-- the cable's course, where the parts have the columns ps
unfoldable pub course_by : List ℕ → Connections → PlacedCable → Course
course_by ps e c = record {
  from = spot_at (get_or ps c.span.lower.0 0) (e.bottom_rows + c.span.lower.0);
  low = cond (eqb c.line e.bottom_line) 0 (e.bottom_rows + c.span.lower.0);
  column = c.column;
  high = cond (eqb c.line e.top_line) (e.bottom_rows + length ps) (e.bottom_rows + c.span.upper.0);
  to = spot_at (get_or ps c.span.upper.0 0) (e.bottom_rows + c.span.upper.0);
}
