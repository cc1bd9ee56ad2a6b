-- The drawing of the first cables of a sheet has a line for each of them, in the direction of its flag. Assumes nothing.
use Prim.Native.Nat.{ℕ, ◌<◌}
use mathlib.Core.Path.{◌≡◌, ◌∙◌}
use mathlib.Core.Bool.{Bool, false}
use mathlib.Core.List.{List}
use lib.ListN.{length, get_or}
use Rattle.lists.proofs.Select.{length_tabulate, get_d_tabulate}
use Rattle.station.specs.Station.{Station, no_cable}
use Rattle.drawing.specs.Reading.{no_endpoints}
use Rattle.validation.specs.Rules.{ends_at}
use Rattle.validation.specs.Directions.{directed}
use Rattle.validation.proofs.Following.{routes_counted}
use Rattle.sweep.specs.Judged.{ends_faced, faced_drawing}

module _ (st : Station) (sheet : List ℕ) (forward : List Bool) (lines : ℕ) where
  pub ends_counted : length (ends_faced st forward lines) ≡ lines
  unfolding ends_faced
  ends_counted = length_tabulate lines (λ i. directed (get_or forward i false) (get_or st.cables i no_cable))

  pub end_faced : (i : ℕ) → i < lines → get_or (ends_faced st forward lines) i no_endpoints ≡ ends_at st (get_or forward i false) i
  unfolding ends_faced
  end_faced i l = get_d_tabulate lines (λ i. directed (get_or forward i false) (get_or st.cables i no_cable)) i no_endpoints l

  pub lines_counted : length (faced_drawing st sheet forward lines).routes ≡ lines
  unfolding faced_drawing
  lines_counted = routes_counted st.parts (ends_faced st forward lines) sheet ∙ ends_counted
