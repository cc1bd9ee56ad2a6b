-- How the code's structs of a layout read in the definitions. Assumes nothing.
use Rattle.std.specs.Prelude.{ℕ, ◌<◌, ◌≡◌, get_or}
use Rattle.ranking.specs.Arrays.{graph_in, GraphFits}
use Rattle.placement.specs.declared.Layout.{Layout}
use Rattle.drawing.specs.Drawing.{Drawing}
use Rattle.layout.specs.Layout as drawn
use Rattle.placement.specs.Laid.{ColumnsOf, course_in, no_course}
use Rattle.layout.specs.Points.{bottom_rows, top_rows, course_of}

-- every layout is that of its graph
pub record IsLayout (l : Layout) : Type 0 where
  pub fits : GraphFits l.graph
  pub columns : ColumnsOf l.graph l.graph.parts l.columns
  pub bottom : l.bottom_rows ≡ bottom_rows (graph_in l.graph)
  pub top : l.top_rows ≡ top_rows (graph_in l.graph)
  pub courses : (i : ℕ) → i < l.graph.cables → course_in (get_or l.courses i no_course) ≡ course_of (graph_in l.graph) i

-- the drawing of a layout, whose parts are numbered by rank
abbrev pub layout_in : Layout → Drawing
layout_in l = drawn.layout (graph_in l.graph)
