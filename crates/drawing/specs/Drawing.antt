-- A drawing: what a sheet says, before it is words. Assumes nothing.
use Rattle.std.specs.Prelude.{ℕ, ◌+◌, Bool, List, [], ◌∷◌, ◌++◌, map, length, get_or}
use Rattle.lists.specs.Select.{tabulate, count, index_of}
use Rattle.geometry.specs.Spots.{Spot, origin}
use Rattle.geometry.specs.Lines.{Meetings}
use Rattle.geometry.specs.Crossing.{lines_cross}

-- A cable as it is drawn: its lower-ranked part, its other part, and its corners from the first upward.
pub record Route : Type 0 where
  pub first : ℕ
  pub last : ℕ
  pub corners : List Spot

abbrev pub no_route : Route
no_route = record { first = 0; last = 0; corners = [] }

-- 'A sheet is its head, the parts by number, then the cables by line'
pub record Drawing : Type 0 where
  pub width : ℕ
  pub height : ℕ
  pub parts : List Spot
  pub routes : List Route

-- the spot of part p
unfoldable pub spot_of : Drawing → ℕ → Spot
spot_of d p = get_or d.parts p origin

-- 'Its points are the spots of its lower-ranked part, of its corners in the sheet's sequence, and of its other part'
unfoldable pub route_points : Drawing → Route → List Spot
route_points d r = spot_of d r.first ∷ (r.corners ++ spot_of d r.last ∷ [])

-- the cable at line i as drawn, and its points
unfoldable pub route_at : Drawing → ℕ → Route
route_at d i = get_or d.routes i no_route

unfoldable pub points_at : Drawing → ℕ → List Spot
points_at d i = route_points d (route_at d i)

-- what demand 3 says of meetings, of a drawing's parts and cables
abbrev pub Meets : Drawing → Type 0
Meets d = Meetings (length d.parts) (length d.routes) (spot_of d) (λ i. (route_at d i).first) (λ i. (route_at d i).last) (points_at d)

-- Crossings

-- 2026-02: 'all pairs of cables whose lines cross, those that share a part too'
unfoldable pub cross_pair : Drawing → Route → Route → Bool
cross_pair d r q = lines_cross (route_points d r) (route_points d q)

-- each cable with those behind it, so that every pair is counted once
unfoldable pub crossings_of : Drawing → List Route → ℕ
crossings_of d [] = 0
crossings_of d (r ∷ rs) = count (cross_pair d r) rs + crossings_of d rs

unfoldable pub crossings : Drawing → ℕ
crossings d = crossings_of d d.routes

-- Numbers of parts

-- A drawing whose parts are numbered by their places in a list of names, with each part numbered by its name.
unfoldable pub renumbered : List ℕ → Drawing → Drawing
renumbered names d = record {
  width = d.width;
  height = d.height;
  parts = tabulate (length d.parts) (λ p. spot_of d (index_of p names));
  routes = map (λ (r : Route). record { first = get_or names r.first 0; last = get_or names r.last 0; corners = r.corners }) d.routes;
}
