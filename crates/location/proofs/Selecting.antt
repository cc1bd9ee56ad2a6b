-- A chosen cable of an accepted sheet: where its own words stand and what they say, and that its box is the smallest that holds its points,
-- from whichever end they are read. Assumes nothing.
--     own_words, own_corners    first the cable's word, then as many as it counts, in which its corners are read
--     selects                   the answer that is to be given has these words
--     encloses                  the answer that is to be given has the smallest box
use Rattle.checks.specs.declared.Fault.{Fault}
use Rattle.std.specs.Prelude.{Ok, Err}
use Prim.Native.Nat.{ℕ, suc, ◌+◌, ◌-◌, ◌*◌, ◌<◌, ◌≤◌}
use native.Mathlib.Numerals.{add-one}
use native.Mathlib.Omega.{arith}
use mathlib.Core.Path.{◌≡◌, sym, ap, ◌∙◌}
use mathlib.Core.Logic.{◌⊎◌, inl, inr}
use mathlib.Core.Bool.{Bool, true, false}
use mathlib.Core.List.Memᴰ
use mathlib.Core.List.{List, [], ◌∷◌, ◌++◌, map, Memᴰ}
use lib.ListN.{length, get_or, take, drop, length-map, get_or-map}
use lib.Seq.{drop-cons}
use denote.Ref.{Bor}
use Rattle.checks.specs.Checks.{Clear, refused}
use Rattle.station.specs.Station.{Station, Cable, no_cable, station_of}
use Rattle.order.specs.Checks.{all_checks}
use Rattle.geometry.specs.Spots.{Spot}
use Rattle.drawing.specs.Drawing.{Route, Drawing, spot_of, route_at, route_points, points_at}
use Rattle.drawing.specs.Reading.{Endpoints, word_spot}
use Rattle.validation.specs.Layout.{Follows}
use Rattle.validation.specs.Facing.{line_over}
use Rattle.validation.specs.Directions.{directed, shown}
use Rattle.validation.specs.Rules.{ends_at, points_read}
use Rattle.validation.specs.Outcome.{Accepted}
use Rattle.validation.proofs.Following.{counted, place_next, place_rises, layout_e, read_route, route_read}
use Rattle.validation.proofs.Accepting.{route_directed, passed_all}
use Rattle.bounds.specs.declared.Bounds.{Bounds}
use Rattle.bounds.specs.Boxes.{box_of, Smallest}
use Rattle.bounds.proofs.Smallest.{smallest, smallest_same}
use Rattle.location.specs.Selection.{own_start, own_count, PartOf, cable_box}
use Rattle.location.specs.Outcome.{drawing_of, selected, start_in, count_in, Selects, bounded, Encloses, Selected, Bounded}
use Rattle.location.proofs.Answers.{CableStep, not_accepted_lem, no_line, chosen, cable_step, selected_refuses_22, selected_refuses_23, selected_words, bounded_refuses_22, bounded_refuses_23, Given, selected_given, bounded_given}
use Rattle.location.proofs.SameLine.{accepted_points}

-- What the sheet says of the cable

module _ (list sheet : List ℕ) (line : ℕ) (given : Given list sheet line) where
  abbrev st : Station
  st = station_of list

  abbrev n : ℕ
  n = st.parts

  abbrev m : ℕ
  m = length st.cables

  abbrev cable : Cable
  cable = get_or st.cables line no_cable

  pub given_passed : Clear all_checks list
  given_passed = (passed_all list sheet given.0).0

  pub given_layout : Follows (station_of list).parts (length (station_of list).cables) sheet
  given_layout = layout_e n m sheet (passed_all list sheet given.0).1

  -- its words are in the sheet
  pub own_inside : own_start (station_of list).parts sheet line + own_count (station_of list).parts sheet line ≤ length sheet
  own_inside = omega (arith, given_layout.complete, place_next n sheet line, place_rises n sheet (suc line) m given.1)

  abbrev start : ℕ
  start = own_start n sheet line

  abbrev corners : ℕ
  corners = counted n sheet line

  -- 'head and corners': first its own word, which counts its corners, then theirs
  pub own_words :
      take (own_count (station_of list).parts sheet line) (drop (own_start (station_of list).parts sheet line) sheet)
      ≡ get_or sheet (own_start (station_of list).parts sheet line) 0
      ∷ take (counted (station_of list).parts sheet line) (drop (own_start (station_of list).parts sheet line + 1) sheet)
  own_words =
      let q : 1 + corners ≡ suc corners = omega arith in
      rw (q, drop-cons sheet start 0 (omega (arith, own_inside)), add-one)

  abbrev ends : List Endpoints
  ends = map (directed true) st.cables

  route_shown : route_at (shown st sheet) line ≡ read_route n sheet (directed true cable) line
  unfolding shown
  route_shown =
      route_read n ends sheet line (rw length-map given.1)
      ∙ ap (λ (e : Endpoints). read_route n sheet e line) (get_or-map (directed true) st.cables line no_cable)

  pub own_corners :
      map word_spot (take (counted (station_of list).parts sheet line) (drop (own_start (station_of list).parts sheet line + 1) sheet))
      ≡ (route_at (shown (station_of list) sheet) line).corners
  own_corners = sym (ap (λ (r : Route). r.corners) route_shown)

-- A part of a row from one place up to another: 'without a copy', in words of four bytes.
pub part_between :
    (row part : Bor (List ℕ)) (start count : ℕ) → part.now ≡ take (start + count - start) (drop start row.now)
    → part.ref_ptr.0 ≡ row.ref_ptr.0 → part.ref_ptr.1 ≡ row.ref_ptr.1 + start * 4 → PartOf row part start count
part_between row part start count w b o =
    let e : start + count - start ≡ count = omega arith in record { words = rw e at w; block = b; offset = o }

-- From whichever end

turned_mem : (p q : Spot) (cs : List Spot) (s : Spot) → Memᴰ s (line_over p cs q) → Memᴰ s (line_over q cs p)
turned_mem p q cs s m = first (Memᴰ.cases_cons m)
  where
    rest : Memᴰ s cs ⊎ Memᴰ s (q ∷ []) → Memᴰ s (line_over q cs p)
    rest (inl c) = Memᴰ.tail (Memᴰ.append_left (p ∷ []) c)
    rest (inr e) = Memᴰ.head (Memᴰ.eq_of_singleton e)

    first : (s ≡ p) ⊎ Memᴰ s (cs ++ q ∷ []) → Memᴰ s (line_over q cs p)
    first (inl e) = Memᴰ.tail (Memᴰ.append_right cs (Memᴰ.head e))
    first (inr c) = rest (Memᴰ.append_cases cs c)

-- the points are the same, in one or the other sequence
turned_smallest : (p q : Spot) (cs : List Spot) (b : Bounds) → Smallest (line_over p cs q) b → Smallest (line_over q cs p) b
turned_smallest p q cs b = smallest_same (line_over p cs q) (line_over q cs p) b (turned_mem p q cs) (turned_mem q p cs)

smallest_turned :
    (st : Station) (d : Drawing) (f g : Bool) (i : ℕ) (b : Bounds) → Smallest (points_read st d f i) b → Smallest (points_read st d g i) b
unfolding points_read route_points
smallest_turned s d true true i b S = S
smallest_turned s d false false i b S = S
smallest_turned s d true false i b S =
    turned_smallest (spot_of d (ends_at s true i).first) (spot_of d (ends_at s true i).last) (route_at d i).corners b S
smallest_turned s d false true i b S =
    turned_smallest (spot_of d (ends_at s false i).first) (spot_of d (ends_at s false i).last) (route_at d i).corners b S

points_some : (st : Station) (d : Drawing) (f : Bool) (i : ℕ) → 0 < length (points_read st d f i)
unfolding points_read route_points
points_some st d f i = omega arith

module _ (list sheet : List ℕ) (line : ℕ) (given : Given list sheet line) where
  points_forward : points_at (shown (station_of list) sheet) line ≡ points_read (station_of list) (shown (station_of list) sheet) true line
  unfolding points_at points_read shown
  points_forward =
      let st = station_of list in
      ap (route_points (shown st sheet))
      (route_directed st sheet (map (directed true) st.cables) line true given.1 (rw length-map given.1)
      (get_or-map (directed true) st.cables line no_cable))

  pub box_forward :
      cable_box (station_of list) sheet line ≡ box_of (points_read (station_of list) (shown (station_of list) sheet) true line)
  unfolding cable_box
  box_forward = ap box_of points_forward

  box_smallest : (a : Accepted list sheet) → Smallest (points_at (drawing_of a) line) (cable_box (station_of list) sheet line)
  box_smallest a =
      let st = station_of list in
      let d = shown st sheet in
      rw (accepted_points list sheet (given_passed list sheet line given) a line given.1, box_forward)
      (smallest_turned st d true (a.directions.each line given.1).0 line (box_of (points_read st d true line))
      (smallest (points_read st d true line) (points_some st d true line)))

-- The calls

-- where a cable's words are refused, its box is, with the same number and place
pub refused_alike :
    (list sheet : List ℕ) (line : ℕ) (check : Fault) (place : ℕ) → selected list sheet line ≡ refused check place
    → bounded list sheet line ≡ refused check place
refused_alike list sheet line check place h = go (cable_step list sheet line)
  where
    go : CableStep list sheet line → bounded list sheet line ≡ refused check place
    go (not_accepted_lem c p e) =
        let q = selected_refuses_22 list sheet line c p e in cc (bounded_refuses_22 list sheet line c p e)
    go (no_line e l) = let q = selected_refuses_23 list sheet line e l in cc (bounded_refuses_23 list sheet line e l)
    go (chosen e l) = let q = selected_words list sheet line e l in cc

pub selects : (list sheet : List ℕ) (line : ℕ) (answer : Selected) → answer ≡ selected list sheet line → Selects list sheet line answer
selects list sheet line answer e = record {
  answers = e;
  inside = inside answer e;
  own = λ start count h.
      let g = selected_given list sheet line start count (sym e ∙ h) in
      rw g.1 ((given_layout list sheet line g.0).cables line g.0.1);
}
  where
    inside : (a : Selected) → a ≡ selected list sheet line → start_in a + count_in a ≤ length sheet
    inside (Ok s) h =
        let g = selected_given list sheet line s.start s.count (sym h) in omega (arith, own_inside list sheet line g.0)
    inside (Err r) h = omega arith

pub encloses : (list sheet : List ℕ) (line : ℕ) (answer : Bounded) → answer ≡ bounded list sheet line → Encloses list sheet line answer
encloses list sheet line answer e = record {
  answers = e;
  smallest = λ bounds h a.
      let g = bounded_given list sheet line bounds (sym e ∙ h) in (g.0.1, rw g.1 (box_smallest list sheet line g.0 a));
}
