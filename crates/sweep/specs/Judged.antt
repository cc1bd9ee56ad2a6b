-- The sweep of a sheet: each cable in the direction that a look along its line gives, and what the two numbers that the sweep finds say.
-- Assumes nothing.
use Rattle.std.specs.Prelude.{ℕ, ◌<◌, ◌≤◌, ◌≡◌, Bool, true, false, cond, List, length, get_or, ltb, Option, Some, None}
use Rattle.lists.specs.Select.{tabulate}
use Rattle.station.specs.Station.{Station, no_cable}
use Rattle.drawing.specs.Drawing.{Drawing, spot_of, route_at}
use Rattle.drawing.specs.Reading.{Endpoints, drawing_in}
use Rattle.validation.specs.Alone.{alternates}
use Rattle.validation.specs.Directions.{directed, shown}
use Rattle.validation.specs.Facing.{faces_forward}
use Rattle.validation.specs.Rules.{points_read}

-- the direction of cable i on a drawing read forward
unfoldable pub facing : Station → Drawing → ℕ → Bool
facing st d i =
    let c = get_or st.cables i no_cable in faces_forward (spot_of d c.one) (route_at d i).corners (spot_of d c.other)

-- the cable alternates in that direction
unfoldable pub alternates_facing : Station → Drawing → ℕ → Bool
alternates_facing st d i = alternates (points_read st d (facing st d i) i)

-- the first cables all alternate in their direction, of which there is a flag for each; the next does not
pub record Faced (st : Station) (sheet : List ℕ) (forward : List Bool) (lines : ℕ) : Type 0 where
  pub few : lines ≤ length st.cables
  pub flags : (i : ℕ) → i < lines → get_or forward i false ≡ facing st (shown st sheet) i
  pub alternate : (i : ℕ) → i < lines → alternates_facing st (shown st sheet) i ≡ true
  pub next : lines < length st.cables → alternates_facing st (shown st sheet) lines ≡ false

-- the drawing of the first cables, each in the direction that its flag has
unfoldable pub ends_faced : Station → List Bool → ℕ → List Endpoints
ends_faced st forward lines = tabulate lines (λ i. directed (get_or forward i false) (get_or st.cables i no_cable))

unfoldable pub faced_drawing : Station → List ℕ → List Bool → ℕ → Drawing
faced_drawing st sheet forward lines = drawing_in st.parts (ends_faced st forward lines) sheet

-- Of so many lines out of m, the lowest that is wrong by itself and the lowest of a pair that meets wrongly, each the count of lines where
-- there is none: what 20 says.
unfoldable pub judged : ℕ → ℕ → ℕ → ℕ → Option ℕ
judged alone pair lines m = cond (ltb alone lines) (Some alone) (cond (ltb lines m) (Some lines) (cond (ltb pair lines) (Some pair) None))
