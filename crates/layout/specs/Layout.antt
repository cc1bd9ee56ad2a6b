-- The drawing of an st-graph, whose parts are numbered by rank. Assumes nothing.
use Rattle.std.specs.Prelude.{◌+◌, ◌-◌}
use Rattle.lists.specs.Select.{tabulate}
use Rattle.order.specs.Graph.{StGraph, size, lower, upper}
use Rattle.drawing.specs.Drawing.{Drawing}
use Rattle.layout.specs.Columns.{Columns, columns}
use Rattle.layout.specs.Points.{corners_of, bottom_rows, top_rows, part_spot, course}

-- The drawing once the columns are known: 'The sheet has m - n + 1 as width, n - 1 + d + e as height'.
unfoldable pub drawn_in : StGraph → Columns → Drawing
drawn_in G c = record {
  width = size G + 1 - G.parts;
  height = G.parts - 1 + bottom_rows G + top_rows G;
  parts = tabulate G.parts (part_spot G c);
  routes = tabulate (size G) (λ i. record { first = lower G i; last = upper G i; corners = corners_of (course G c i) });
}

unfoldable pub layout : StGraph → Drawing
layout G = drawn_in G (columns G G.parts)
