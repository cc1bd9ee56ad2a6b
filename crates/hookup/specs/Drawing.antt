-- The drawing of a station: that of its cables in ranks, with each part's own number. Assumes nothing.
use Rattle.std.specs.Prelude.{ℕ, List}
use Rattle.station.specs.Station.{Station}
use Rattle.order.specs.Order.{order}
use Rattle.order.specs.Orientation.{ranked_by}
use Rattle.drawing.specs.Drawing.{Drawing, renumbered}
use Rattle.layout.specs.Layout.{layout}

-- the drawing once the parts stand in an order
unfoldable pub drawing_by : Station → List ℕ → Drawing
drawing_by st parts = renumbered parts (layout (ranked_by parts st))

unfoldable pub drawing : Station → Drawing
drawing st = drawing_by st (order st)
