-- The drawing that a sheet's words show, read beside its list. Assumes nothing.
use Rattle.std.specs.Prelude.{ℕ, List, map}
use Rattle.station.specs.Station.{Cable, Station, station_of}
use Rattle.order.specs.Order.{order}
use Rattle.order.specs.Orientation.{lower_part, upper_part}
use Rattle.drawing.specs.Drawing.{Drawing}
use Rattle.drawing.specs.Reading.{Endpoints, drawing_in}

-- A cable's corners stand 'from the lower-ranked end upward'.
unfoldable pub ends_by : List ℕ → Cable → Endpoints
ends_by parts c = record { first = lower_part parts c; last = upper_part parts c }

unfoldable pub read_by : List ℕ → Station → List ℕ → Drawing
read_by parts st sheet = drawing_in st.parts (map (ends_by parts) st.cables) sheet

-- the drawing on a sheet of a list
unfoldable pub drawing_of : List ℕ → List ℕ → Drawing
drawing_of list sheet = read_by (order (station_of list)) (station_of list) sheet
