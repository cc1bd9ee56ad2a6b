-- A cable that is right in both directions is one line, so that the lines that are read off an accepted sheet are those of the drawing that
-- it is accepted as; so are its parts and its counts. Assumes nothing.
use Prim.Native.Nat.{ℕ, ◌<◌}
use native.Mathlib.Omega.{arith}
use mathlib.Core.Path.{◌≡◌, refl, sym, ap, ◌∙◌, subst}
use mathlib.Core.Bool.{Bool, true, false, true≢false}
use mathlib.Core.List.{List}
use lib.ListN.{length}
use Rattle.lists.proofs.Bools.{same_test}
use Rattle.checks.specs.Checks.{Clear}
use Rattle.station.specs.Station.{Station, station_of}
use Rattle.order.specs.Checks.{all_checks}
use Rattle.geometry.specs.Spots.{Spot}
use Rattle.geometry.specs.Lines.{Lone, OnLine}
use Rattle.drawing.specs.Drawing.{Route, Drawing, spot_of, route_at, route_points, points_at}
use Rattle.drawing.specs.Reading.{drawing_in}
use Rattle.validation.specs.Alone.{on_line}
use Rattle.validation.specs.Directions.{shown}
use Rattle.validation.specs.Facing.{line_over}
use Rattle.validation.specs.Ways.{passing}
use Rattle.validation.specs.Rules.{ends_at, points_read, right_read, points_right}
use Rattle.validation.specs.Outcome.{Accepted}
use Rattle.validation.proofs.Following.{routes_counted, parts_counted}
use Rattle.validation.proofs.Alone.{on_line_e, on_line_i, lone_e}
use Rattle.validation.proofs.Ways.{passing_way_i, passing_way_e}
use Rattle.validation.proofs.Directions.{directions_same_ways}
use Rattle.validation.proofs.Accepting.{LoneRoute, read_in, route_directed, right_i}
use Rattle.location.specs.Outcome.{drawing_of}

-- Two right directions over the same corners

module _ (n : ℕ) (spot : ℕ → Spot) (a b : ℕ) (cs : List Spot) where
  abbrev forth : List Spot
  forth = line_over (spot a) cs (spot b)

  abbrev back : List Spot
  back = line_over (spot b) cs (spot a)

  module _ (L : Lone n spot a b forth) (K : Lone n spot b a back) (s : Spot) where
    -- they pass the spot alike
    on_both : (on_line forth s ≡ true → on_line back s ≡ true) × (on_line back s ≡ true → on_line forth s ≡ true)
    on_both =
        let w = ap passing (directions_same_ways n spot a b cs L K s) in (
          λ h. on_line_i back s (passing_way_e n spot b a back K s (sym w ∙ passing_way_i n spot a b forth L s (on_line_e forth s h))),
          λ h. on_line_i forth s (passing_way_e n spot a b forth L s (w ∙ passing_way_i n spot b a back K s (on_line_e back s h))),
        )

    same_directions : on_line forth s ≡ on_line back s
    same_directions = same_test (on_line forth s) (on_line back s) on_both.0 on_both.1

-- A cable on a drawing

module _ (st : Station) (d : Drawing) where
  right_lone : (f : Bool) (i : ℕ) → right_read st d f i ≡ true → LoneRoute d st.parts (read_in st d f i)
  unfolding right_read points_read
  right_lone f i h = lone_e st.parts (spot_of d) (ends_at st f i).first (ends_at st f i).last (points_read st d f i) h

  -- right in both directions, it is the same line in both
  pub same_line :
      (f g : Bool) (i : ℕ) → right_read st d f i ≡ true → right_read st d g i ≡ true → (s : Spot)
      → on_line (points_read st d f i) s ≡ on_line (points_read st d g i) s
  unfolding points_read route_points
  same_line true true i h k s = refl
  same_line false false i h k s = refl
  same_line true false i h k s =
      same_directions st.parts (spot_of d) (ends_at st true i).first (ends_at st true i).last (route_at d i).corners (right_lone true i h)
      (right_lone false i k) s
  same_line false true i h k s =
      same_directions st.parts (spot_of d) (ends_at st false i).first (ends_at st false i).last (route_at d i).corners
      (right_lone false i h) (right_lone true i k) s

  -- so it is the line in the direction that is taken
  pub right_line :
      (f : Bool) (i : ℕ) → right_read st d f i ≡ true → (s : Spot) → on_line (points_read st d f i) s ≡ on_line (points_right st d i) s
  unfolding points_right
  right_line f i h s = go f h (right_read st d true i) refl
    where
      go :
          (f : Bool) → right_read st d f i ≡ true → (b : Bool) → right_read st d true i ≡ b
          → on_line (points_read st d f i) s ≡ on_line (points_read st d b i) s
      go f h true e = same_line f true i h e s
      go true h false e = absurd (true≢false (sym h ∙ e))
      go false h false e = refl

-- An accepted sheet

module _ (list sheet : List ℕ) (pass : Clear all_checks list) (a : Accepted list sheet) where
  abbrev st : Station
  st = station_of list

  abbrev d : Drawing
  d = shown st sheet

  -- its parts and its cables are those of the list
  pub accepted_parts : length (drawing_of a).parts ≡ (station_of list).parts
  accepted_parts = parts_counted st.parts (length st.cables) a.ends sheet a.layout

  pub accepted_routes : length (drawing_of a).routes ≡ length (station_of list).cables
  accepted_routes = routes_counted st.parts a.ends sheet ∙ a.directions.all

  -- each part stands where its word says, whatever the directions
  pub accepted_part : (p : ℕ) → spot_of (drawing_of a) p ≡ spot_of (shown (station_of list) sheet) p
  unfolding shown drawing_in spot_of
  accepted_part p = refl

  module _ (i : ℕ) (l : i < length st.cables) where
    abbrev turn : Bool
    turn = (a.directions.each i l).0

    route_is : route_at (drawing_of a) i ≡ read_in st d turn i
    route_is = let e = a.directions.all in route_directed st sheet a.ends i turn l (omega arith) (a.directions.each i l).1

    -- the points of a cable are those that are read in its direction
    pub accepted_points :
        points_at (drawing_of a) i ≡ points_read (station_of list) (shown (station_of list) sheet) (a.directions.each i l).0 i
    unfolding points_at points_read route_points shown drawing_in spot_of
    accepted_points = ap (λ (r : Route). route_points (drawing_of a) r) route_is

    -- and it is right in that direction
    lone_counted : LoneRoute (drawing_of a) st.parts (route_at (drawing_of a) i)
    unfolding points_at
    lone_counted =
        subst (λ (n : ℕ). LoneRoute (drawing_of a) n (route_at (drawing_of a) i)) accepted_parts
        (a.meetings.alone i (let e = accepted_routes in omega arith))

    lone_shown : (r : Route) → LoneRoute (drawing_of a) st.parts r → LoneRoute d st.parts r
    unfolding shown drawing_in spot_of route_points
    lone_shown r L = L

    pub accepted_right : right_read (station_of list) (shown (station_of list) sheet) (a.directions.each i l).0 i ≡ true
    accepted_right =
        right_i st sheet turn i
        (lone_shown (read_in st d turn i) (subst (LoneRoute (drawing_of a) st.parts) route_is lone_counted))

  -- The line that is looked at is the line of the drawing.
  pub accepted_line :
      (i : ℕ) → i < length (station_of list).cables → (s : Spot)
      → (on_line (points_right (station_of list) (shown (station_of list) sheet) i) s ≡ true → OnLine (points_at (drawing_of a) i) s)
      × (OnLine (points_at (drawing_of a) i) s → on_line (points_right (station_of list) (shown (station_of list) sheet) i) s ≡ true)
  accepted_line i l s =
      let e = right_line st d (turn i l) i (accepted_right i l) s in (
        λ h. subst (λ (ps : List Spot). OnLine ps s) (sym (accepted_points i l)) (on_line_e (points_read st d (turn i l) i) s (e ∙ h)),
        λ o. sym e ∙ on_line_i (points_read st d (turn i l) i) s (subst (λ (ps : List Spot). OnLine ps s) (accepted_points i l) o),
      )
