-- Request 2026-09, 20: 'a line that breaks the rules'. Assumes nothing.
use Rattle.std.specs.Prelude.{ℕ, Bool, true, false, not, ◌&&◌, ◌||◌, List, length, get_or, eqb, Option}
use Rattle.lists.specs.Search.{seek}
use Rattle.lists.specs.Select.{any, range}
use Rattle.station.specs.Station.{Station, no_cable}
use Rattle.geometry.specs.Spots.{Spot}
use Rattle.drawing.specs.Drawing.{Drawing, spot_of, route_at, route_points}
use Rattle.drawing.specs.Reading.{Endpoints}
use Rattle.validation.specs.Alone.{lone}
use Rattle.validation.specs.Judging.{together}
use Rattle.validation.specs.Layout.{or_found}
use Rattle.validation.specs.Directions.{directed, shown}

-- the cable at a line with its two parts in one direction, and its points on a drawing read forward: its corners are those in the sheet's
-- sequence
abbrev pub ends_at : Station → Bool → ℕ → Endpoints
ends_at st forward i = directed forward (get_or st.cables i no_cable)

unfoldable pub points_read : Station → Drawing → Bool → ℕ → List Spot
points_read st d forward i =
    route_points d (record { first = (ends_at st forward i).first; last = (ends_at st forward i).last; corners = (route_at d i).corners })

-- it 'joins its own parts by alternating level and upright runs of nonzero length' and touches neither itself nor a part wrongly, read so
unfoldable pub right_read : Station → Drawing → Bool → ℕ → Bool
right_read st d forward i =
    lone st.parts (spot_of d) (ends_at st forward i).first (ends_at st forward i).last (points_read st d forward i)

-- read from neither end
unfoldable pub wrong_alone : Station → Drawing → ℕ → Bool
wrong_alone st d i = not (right_read st d true i || right_read st d false i)

-- the points of a cable in a direction in which it is right; where it is in both, they are the same line
unfoldable pub points_right : Station → Drawing → ℕ → List Spot
points_right st d i = points_read st d (right_read st d true i) i

-- two cables meet wrongly
unfoldable pub wrong_pair : Station → Drawing → ℕ → ℕ → Bool
wrong_pair st d i j = not (eqb i j) && not (together d.width d.height (points_right st d i) (points_right st d j))

-- 20: 'place the lowest cable that fails to join its parts so, touches itself or touches a part wrongly; where none does, the lowest cable
-- of any pair that meets wrongly'
unfoldable pub check20 : Station → List ℕ → Option ℕ
check20 st sheet =
    let d = shown st sheet in
    let m = length st.cables in
    or_found (seek (wrong_alone st d) 0 m) (seek (λ i. any (wrong_pair st d i) (range m)) 0 m)
