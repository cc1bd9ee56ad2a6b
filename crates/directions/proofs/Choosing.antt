-- The direction of each cable, read off the sheet's words one cable after the other. Assumes nothing.
use Prim.Native.Nat.{ℕ, suc, ◌+◌, ◌<◌, ◌≤◌}
use native.Mathlib.Omega.{arith}
use native.Mathlib.Numerals.{add-one}
use mathlib.Core.Path.{◌≡◌, refl, sym, ap, ◌∙◌}
use mathlib.Core.Bool.{Bool, true, false}
use mathlib.Core.List.{List, map}
use lib.ListN.{length, get_or, set, drop, length-set, length-map, length-take, length-drop}
use lib.Seq.{get_or-set_same, get_or-set_other}
use borrow.Author.Count.{below_more}
use Rattle.words.specs.Words.{second_of}
use Rattle.words.specs.Limits.{most_cables}
use Rattle.checks.specs.Checks.{Clear}
use Rattle.station.specs.Station.{Station, station_of}
use Rattle.station.proofs.Cables.{line_word}
use Rattle.order.specs.Checks.{all_checks}
use Rattle.order.proofs.Passed.{list_wired, lines_most}
use Rattle.drawing.specs.Drawing.{Route, Drawing, spot_of, route_at, route_points}
use Rattle.drawing.specs.Reading.{word_spot}
use Rattle.validation.specs.Alone.{alternates}
use Rattle.validation.specs.Facing.{faces_forward}
use Rattle.validation.specs.Directions.{directed, shown}
use Rattle.validation.specs.Layout.{cable_place, Follows}
use Rattle.validation.specs.Rules.{ends_at, points_read}
use Rattle.validation.proofs.Accepting.{ends_below}
use Rattle.validation.proofs.Following.{place_first, place_next, place_rises, words_enough, route_read, part_read}
use Rattle.directions.specs.declared.strands.Strand.{Strand}
use Rattle.sweep.specs.Boards as tables
use Rattle.sweep.specs.Judged.{facing, alternates_facing, Faced}
use Rattle.directions.specs.Code.{strand_in, strand_for, corner_words, CornersOf, InSheet, Trace, points_along, trace_off, trace_at}

-- Cables are read one after the other: the word of cable i stands at this place.
pub record AtCable (list sheet : List ℕ) (at i : ℕ) : Type 0 where
  pub layout : Follows (station_of list).parts (length (station_of list).cables) sheet
  pub place : at ≡ cable_place (station_of list).parts sheet i

pub cable_first :
    {list sheet : List ℕ} {n : ℕ} → Follows (station_of list).parts (length (station_of list).cables) sheet
    → n ≡ (station_of list).parts → AtCable list sheet (1 + n) 0
cable_first {list} {sheet} follows e =
    record { layout = follows; place = ap (λ (k : ℕ). 1 + k) e ∙ sym (place_first (station_of list).parts sheet) }

module _ {list sheet : List ℕ} {at i : ℕ} (L : AtCable list sheet at i) where
  -- it is in the sheet, and so are the corners that it counts
  pub cable_inside : i < length (station_of list).cables → at + 1 + second_of (get_or sheet at 0) ≤ length sheet
  cable_inside h =
      let n = (station_of list).parts in
      let r = place_rises n sheet (suc i) (length (station_of list).cables) h in
      rw L.place (omega (arith, L.layout.complete, place_next n sheet i))

  module _ {corners : List ℕ} (e : corners ≡ corner_words sheet at) where
    pub cable_corners : Clear all_checks list → i < length (station_of list).cables → CornersOf list sheet i corners
    cable_corners pass h = record { passed = pass; layout = L.layout; is_line = h; words = e ∙ ap (corner_words sheet) L.place }

    corners_counted : i < length (station_of list).cables → length corners ≡ second_of (get_or sheet at 0)
    corners_counted h =
        let inside = cable_inside h in
        ap length e ∙ length-take _ (drop (at + 1) sheet) ∙ omega (arith, length-drop (at + 1) sheet)

    pub cable_next : i < length (station_of list).cables → AtCable list sheet (at + (1 + length corners)) (i + 1)
    cable_next h = record {
      layout = L.layout;
      place =
          let counts = corners_counted h ∙ ap (λ (a : ℕ). second_of (get_or sheet a 0)) L.place in
          rw (add-one i) (omega (arith, L.place, counts, place_next (station_of list).parts sheet i));
    }

-- One cable

module _ {list sheet : List ℕ} {line : ℕ} {corners : List ℕ} (C : CornersOf list sheet line corners) where
  abbrev st : Station
  st = station_of list

  abbrev d : Drawing
  d = shown st sheet

  -- its word is in the list, and its number has room in a cell
  pub line_inside : 2 + line < length list
  line_inside = line_word list line C.is_line

  pub line_small : line < 1024
  line_small = omega (arith, C.is_line, lines_most list C.passed)

  corners_read : map word_spot corners ≡ (route_at d line).corners
  unfolding shown
  corners_read =
      ap (map word_spot) C.words
      ∙ sym (ap (λ (r : Route). r.corners) (route_read st.parts (map (directed true) st.cables) sheet line (rw length-map C.is_line)))

  part_inside : (p : ℕ) → p < st.parts → 1 + p < length sheet
  part_inside p l = omega (arith, words_enough st.parts (length st.cables) sheet C.layout)

  part_spot_lem : (p : ℕ) → p < st.parts → word_spot (get_or sheet (1 + p) 0) ≡ spot_of d p
  unfolding shown
  part_spot_lem p l = sym (part_read st.parts (map (directed true) st.cables) sheet p l)

  ends_are : (forward : Bool) → ((ends_at st forward line).first < st.parts) × ((ends_at st forward line).last < st.parts)
  ends_are forward = ends_below st (list_wired list C.passed) forward line

  -- read in a direction
  module _ (forward : Bool) {s : tables.Strand} (e : s ≡ strand_for list line forward) where
    first_is : s.one ≡ (ends_at st forward line).first
    first_is = ap (λ (t : tables.Strand). t.one) e

    last_is : s.other ≡ (ends_at st forward line).last
    last_is = ap (λ (t : tables.Strand). t.other) e

    first_word : 1 + s.one < length sheet
    first_word = rw first_is (part_inside (ends_at st forward line).first (ends_are forward).0)

    last_word : 1 + s.other < length sheet
    last_word = rw last_is (part_inside (ends_at st forward line).last (ends_are forward).1)

    -- what is read off the sheet is the cable's
    pub trace_read : trace_off sheet s corners ≡ trace_at (station_of list) (shown (station_of list) sheet) forward line
    trace_read =
        let first = part_spot_lem (ends_at st forward line).first (ends_are forward).0 in
        let last = part_spot_lem (ends_at st forward line).last (ends_are forward).1 in
        rw (first_is, last_is, first, last, corners_read) refl

  pub strand_inside : (forward : Bool) (s : Strand) → strand_in s ≡ strand_for list line forward → InSheet sheet s
  strand_inside forward s e = record { one = first_word forward e; other = last_word forward e }

-- All cables

-- the directions of the cables before cable i are chosen, and all of them alternate; the word of cable i stands at this place
pub record Choosing (list sheet : List ℕ) (flags : List Bool) (m : ℕ) (forward : List Bool) (at i : ℕ) : Type 0 where
  pub passed : Clear all_checks list
  pub layout : Follows (station_of list).parts (length (station_of list).cables) sheet
  pub lines : m ≡ length (station_of list).cables
  pub long : length forward ≡ length flags
  pub room : most_cables ≤ length forward
  pub few : i ≤ m
  pub place : at ≡ cable_place (station_of list).parts sheet i
  pub chosen : (j : ℕ) → j < i → get_or forward j false ≡ facing (station_of list) (shown (station_of list) sheet) j
  pub alternate : (j : ℕ) → j < i → alternates_facing (station_of list) (shown (station_of list) sheet) j ≡ true

pub choosing_start :
    {list sheet : List ℕ} {flags : List Bool} {m n : ℕ} → Clear all_checks list
    → Follows (station_of list).parts (length (station_of list).cables) sheet → most_cables ≤ length flags
    → m ≡ length (station_of list).cables → n ≡ (station_of list).parts → Choosing list sheet flags m flags (1 + n) 0
choosing_start pass follows room e f = record {
  passed = pass;
  layout = follows;
  lines = e;
  long = refl;
  room = room;
  few = omega arith;
  place = (cable_first follows f).place;
  chosen = λ j l. absurd (omega arith);
  alternate = λ j l. absurd (omega arith);
}

module _ {list sheet : List ℕ} {flags : List Bool} {m : ℕ} {forward : List Bool} {at i : ℕ}
    (I : Choosing list sheet flags m forward at i) where
  choosing_here : AtCable list sheet at i
  choosing_here = record { layout = I.layout; place = I.place }

  module _ (h : i < m) where
    pub choosing_room : i < length forward
    choosing_room = omega (arith, I.lines, I.room, lines_most list I.passed)

    pub choosing_words : at + 1 + second_of (get_or sheet at 0) ≤ length sheet
    choosing_words = cable_inside choosing_here (omega (arith, I.lines))

    module _ {corners : List ℕ} (e : corners ≡ corner_words sheet at) where
      module _
          {b a : Bool} {t u : Trace} (o : t ≡ trace_at (station_of list) (shown (station_of list) sheet) true i)
          (f : b ≡ faces_forward t.first t.corners t.last) (p : u ≡ trace_at (station_of list) (shown (station_of list) sheet) b i)
          (g : a ≡ alternates (points_along u))
        where
          faced : b ≡ facing (station_of list) (shown (station_of list) sheet) i
          unfolding facing
          faced = f ∙ ap (λ (s : Trace). faces_forward s.first s.corners s.last) o

          tested : a ≡ alternates_facing (station_of list) (shown (station_of list) sheet) i
          unfolding alternates_facing points_read route_points
          tested = g ∙ ap (λ (s : Trace). alternates (points_along s)) p ∙ rw faced

          pub choosing_stops : a ≡ false → Faced (station_of list) sheet forward i
          choosing_stops n = record {
            few = omega (arith, I.lines);
            flags = I.chosen;
            alternate = I.alternate;
            next = λ l. sym tested ∙ n;
          }

          pub choosing_next : a ≡ true → Choosing list sheet flags m (set forward i b) (at + (1 + length corners)) (i + 1)
          choosing_next n = record {
            passed = I.passed;
            layout = I.layout;
            lines = I.lines;
            long = simp length-set I.long;
            room = simp length-set I.room;
            few = omega arith;
            place = (cable_next choosing_here e (omega (arith, I.lines))).place;
            chosen =
                below_more _ i (λ j l. get_or-set_other forward i j b false (λ q. omega arith) ∙ I.chosen j l)
                (get_or-set_same forward i b false choosing_room ∙ faced);
            alternate = below_more _ i I.alternate (sym tested ∙ n);
          }
