-- Request 2026-09: 'Corners may run from either end': a cable's corners are read from the part that its list word names first to the other,
-- or the other way. Assumes nothing.
use Rattle.std.specs.Prelude.{ℕ, ◌<◌, ◌≡◌, Bool, true, false, List, map, length, get_or}
use Rattle.station.specs.Station.{Cable, no_cable, Station}
use Rattle.drawing.specs.Drawing.{Drawing}
use Rattle.drawing.specs.Reading.{Endpoints, no_endpoints, drawing_in}

-- the two parts of a cable, forward as its list word names them, or backward
abbrev pub directed : Bool → Cable → Endpoints
directed true c = record { first = c.one; last = c.other }
directed false c = record { first = c.other; last = c.one }

-- a direction for each cable
pub record Directed (cables : List Cable) (ends : List Endpoints) : Type 0 where
  pub all : length ends ≡ length cables
  pub each :
      (i : ℕ) → i < length cables → (forward : Bool) × (get_or ends i no_endpoints ≡ directed forward (get_or cables i no_cable))

-- the drawing that the words show with every cable read forward: its parts, and each cable's corners in the sheet's sequence
unfoldable pub shown : Station → List ℕ → Drawing
shown st sheet = drawing_in st.parts (map (directed true) st.cables) sheet
