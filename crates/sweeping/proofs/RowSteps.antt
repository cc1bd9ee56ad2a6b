-- The loops over the parts, over the lines and over the rows of a sheet. Assumes nothing.
use Prim.Native.Nat.{ℕ, suc, ◌+◌, ◌-◌, ◌<◌, ◌≤◌}
use native.Mathlib.Omega.{arith}
use native.Mathlib.Numerals.{add-one}
use mathlib.Core.Path.{◌≡◌, refl, sym, ap, ◌∙◌}
use mathlib.Core.Bool.{Bool, false, cond}
use mathlib.Core.List.{List, [], ◌∷◌, map}
use lib.ListN.{length, get_or, take, drop, length-take, drop_of_length-le}
use lib.Seq.{drop-cons}
use lib.Dec.{eqb}
use Rattle.words.specs.Words.{second_of}
use Rattle.geometry.specs.Spots.{Spot}
use Rattle.station.specs.Station.{Station, no_cable, station_of}
use Rattle.order.proofs.Passed.{list_wired}
use Rattle.drawing.specs.Drawing.{no_route, Drawing, route_at}
use Rattle.drawing.specs.Reading.{Endpoints, word_spot, drawing_in}
use Rattle.validation.specs.Layout.{cable_place}
use Rattle.validation.specs.Directions.{directed, shown}
use Rattle.validation.proofs.Accepting.{ends_below}
use Rattle.validation.proofs.Following.{words_enough, read_route, route_read, part_read}
use Rattle.sweep.specs.Visits.{Visit}
use Rattle.sweep.specs.Boards as tables
use Rattle.sweep.specs.Boards.{mark_part, visits_alone, visits_pair}
use Rattle.sweep.specs.Sweep.{route_visits, strand_of, parts_marked, lines_alone, lines_pair, rows_alone, rows_pair}
use Rattle.sweep.specs.Judged.{ends_faced, faced_drawing}
use Rattle.sweep.proofs.FacedDrawing.{ends_counted, end_faced, lines_counted}
use Rattle.boards.specs.declared.Boards.{Boards}
use Rattle.directions.specs.Code.{strand_for, corner_words, CornersOf, Trace, trace_off, trace_at}
use Rattle.directions.proofs.Choosing.{AtCable, cable_first, cable_inside, cable_corners, cable_next, trace_read}
use Rattle.sweeping.specs.Able.{Sweepable}
use Rattle.sweeping.specs.Code.{drawn_in, visits_along, Visited, Marked, LinesSwept}

drop_next : (ws : List ℕ) (p : ℕ) → p < length ws → drop p ws ≡ get_or ws p 0 ∷ drop (p + 1) ws
drop_next ws p h = rw (add-one p) (drop-cons ws p 0 h)

-- The parts: those before p have been marked.
pub record Marking (parts : List ℕ) (b₀ b : Boards) (p : ℕ) : Type 0 where
  pub row : b.row ≡ b₀.row
  pub pairs : b.pairs ≡ b₀.pairs
  pub rest : parts_marked b₀.row b.alone p (map word_spot (drop p parts)) ≡ parts_marked b₀.row b₀.alone 0 (map word_spot parts)

module _ {parts : List ℕ} {b₀ b : Boards} {p : ℕ} (M : Marking parts b₀ b p) where
  pub marking_next :
      {b' : Boards} (s : Spot) → p < length parts → s ≡ word_spot (get_or parts p 0) → b'.row ≡ b.row
      → b'.alone ≡ cond (eqb s.y b.row) (mark_part b.row b.alone p s.x) b.alone → b'.pairs ≡ b.pairs → Marking parts b₀ b' (p + 1)
  unfolding parts_marked
  marking_next {b'} s h e r n q = record {
    row = r ∙ M.row;
    pairs = q ∙ M.pairs;
    rest =
        ap (λ (a : List ℕ). parts_marked b₀.row a (p + 1) (map word_spot (drop (p + 1) parts)))
        (n ∙ ap (λ (y : ℕ). cond (eqb s.y y) (mark_part y b.alone p s.x) b.alone) M.row)
        ∙ rw e (rw (drop_next parts p h) at M.rest);
  }

  pub marking_end : length parts ≤ p → Marked b₀ (map word_spot parts) b
  unfolding parts_marked
  marking_end h = record {
    row = M.row;
    alone = ap (λ (ws : List ℕ). parts_marked b₀.row b.alone p (map word_spot ws)) (sym (drop_of_length-le parts h)) ∙ M.rest;
    pairs = M.pairs;
  }

-- What is read of a sheet for the lines that are swept
module _ {list sheet : List ℕ} {forward : List Bool} {lines : ℕ} (A : Sweepable list sheet forward lines) where
  abbrev st : Station
  st = station_of list

  abbrev ends : List Endpoints
  ends = ends_faced st forward lines

  abbrev d : Drawing
  d = drawn_in list sheet forward lines

  -- the head and the parts have their words
  pub sheet_words_lem : 1 + st.parts ≤ length sheet
  sheet_words_lem = words_enough st.parts (length st.cables) sheet A.layout

  -- one of them, in its direction
  module _ (i : ℕ) (h : i < lines) {r : tables.Strand} (e : r ≡ strand_for list i (get_or forward i false)) where
    route_is : route_at d i ≡ read_route st.parts sheet (directed (get_or forward i false) (get_or st.cables i no_cable)) i
    unfolding faced_drawing
    route_is =
        route_read st.parts ends sheet i (omega (arith, ends_counted st sheet forward lines))
        ∙ ap (λ (t : Endpoints). read_route st.parts sheet t i) (end_faced st sheet forward lines i h)

    pub strand_is : r ≡ strand_of i (route_at d i)
    strand_is = e ∙ ap (strand_of i) (sym route_is)

    pub visits_are :
        {corners : List ℕ} (y : ℕ) → CornersOf list sheet i corners → visits_along y (trace_off sheet r corners) ≡ route_visits d y (route_at d i)
    unfolding faced_drawing route_visits
    visits_are y C =
        let c = strand_for list i (get_or forward i false) in
        let below = ends_below st (list_wired list A.passed) (get_or forward i false) i in
        let first = part_read st.parts ends sheet c.one below.0 in
        let last = part_read st.parts ends sheet c.other below.1 in
        rw (e, route_is, first, last, C.words)

  routes_next : (i : ℕ) → i < lines → route_at d i ∷ drop (i + 1) d.routes ≡ drop i d.routes
  unfolding route_at
  routes_next i h = rw (add-one i) (sym (drop-cons d.routes i no_route (omega (arith, lines_counted st sheet forward lines))))

-- One line, over the spots that the code reads of it
pub swept_strand :
    {list sheet : List ℕ} {forward : List Bool} {lines : ℕ} (A : Sweepable list sheet forward lines) (i : ℕ) (h : i < lines) {s : tables.Strand}
    {corners : List ℕ} {t : Trace} {b b' : Boards} → s ≡ strand_for list i (get_or forward i false) → CornersOf list sheet i corners
    → t ≡ trace_off sheet s corners → Visited s b (visits_along b.row t) b'
    → Visited (strand_of i (route_at (drawn_in list sheet forward lines) i)) b
    (route_visits (drawn_in list sheet forward lines) b.row (route_at (drawn_in list sheet forward lines) i)) b'
swept_strand A i h {b = b} e C f U =
    rw (strand_is A i h e, ap (visits_along b.row) f ∙ visits_are A i h e b.row C) at U

-- a row that has no spot of the line leaves the tables as they are
pub none_swept : (c : tables.Strand) (b : Boards) {vs : List Visit} → vs ≡ [] → Visited c b vs b
unfolding visits_alone visits_pair
none_swept c b e = record { row = refl; alone = rw e refl; pairs = rw e refl }

-- Lines are read one after the other: the word of line i stands at this place.
pub record AtLine (list sheet : List ℕ) (forward : List Bool) (lines at i : ℕ) : Type 0 where
  pub able : Sweepable list sheet forward lines
  pub line : i ≤ lines
  pub place : at ≡ cable_place (station_of list).parts sheet i

pub at_first :
    {list sheet : List ℕ} {forward : List Bool} {lines at : ℕ} → Sweepable list sheet forward lines → at ≡ 1 + (station_of list).parts
    → AtLine list sheet forward lines at 0
at_first A e = record { able = A; line = omega arith; place = e ∙ (cable_first A.layout refl).place }

module _ {list sheet : List ℕ} {forward : List Bool} {lines at i : ℕ} (L : AtLine list sheet forward lines at i) (h : i < lines) where
  at_cable : AtCable list sheet at i
  at_cable = record { layout = L.able.layout; place = L.place }

  at_line : i < length (station_of list).cables
  at_line = omega (arith, L.able.few)

  pub at_inside : at + 1 + second_of (get_or sheet at 0) ≤ length sheet
  at_inside = cable_inside at_cable at_line

  module _ {corners : List ℕ} (e : corners ≡ corner_words sheet at) where
    pub at_corners : CornersOf list sheet i corners
    at_corners = cable_corners at_cable e L.able.passed at_line

    pub at_next : AtLine list sheet forward lines (at + (1 + length corners)) (i + 1)
    at_next = record { able = L.able; line = omega arith; place = (cable_next at_cable e at_line).place }

    pub at_visits :
        {t : Trace} → t ≡ trace_at (station_of list) (shown (station_of list) sheet) (get_or forward i false) i → (y : ℕ)
        → visits_along y t ≡ route_visits (drawn_in list sheet forward lines) y (route_at (drawn_in list sheet forward lines) i)
    at_visits f y =
        ap (visits_along y) (f ∙ sym (trace_read at_corners (get_or forward i false) refl))
        ∙ visits_are L.able i h refl y at_corners

-- The lines: those before line i have been swept.
pub record Sweeping (list sheet : List ℕ) (forward : List Bool) (lines : ℕ) (b₀ b : Boards) (at i : ℕ) : Type 0 where
  pub here : AtLine list sheet forward lines at i
  pub row : b.row ≡ b₀.row
  pub alone_rest :
      lines_alone (drawn_in list sheet forward lines) b₀.row b.alone i (drop i (drawn_in list sheet forward lines).routes)
      ≡ lines_alone (drawn_in list sheet forward lines) b₀.row b₀.alone 0 (drawn_in list sheet forward lines).routes
  pub pair_rest :
      lines_pair (drawn_in list sheet forward lines) b₀.row b.pairs i (drop i (drawn_in list sheet forward lines).routes)
      ≡ lines_pair (drawn_in list sheet forward lines) b₀.row b₀.pairs 0 (drawn_in list sheet forward lines).routes

pub sweeping_start :
    {list sheet : List ℕ} {forward : List Bool} {lines : ℕ} {b : Boards} {at : ℕ} → Sweepable list sheet forward lines
    → at ≡ 1 + (station_of list).parts → Sweeping list sheet forward lines b b at 0
sweeping_start A e = record { here = at_first A e; row = refl; alone_rest = refl; pair_rest = refl }

module _
    {list sheet : List ℕ} {forward : List Bool} {lines : ℕ} {b₀ b : Boards} {at i : ℕ}
    (S : Sweeping list sheet forward lines b₀ b at i) where
  pub sweeping_next :
      i < lines → {corners : List ℕ} → corners ≡ corner_words sheet at → {b' : Boards}
      → Visited (strand_of i (route_at (drawn_in list sheet forward lines) i)) b
      (route_visits (drawn_in list sheet forward lines) b.row (route_at (drawn_in list sheet forward lines) i)) b'
      → Sweeping list sheet forward lines b₀ b' (at + (1 + length corners)) (i + 1)
  unfolding lines_alone lines_pair
  sweeping_next h e U =
      let d = drawn_in list sheet forward lines in
      let r = route_at d i in
      record {
        here = at_next S.here h e;
        row = U.row ∙ S.row;
        alone_rest =
            ap (λ (a : List ℕ). lines_alone d b₀.row a (i + 1) (drop (i + 1) d.routes))
            (U.alone ∙ ap (λ (y : ℕ). visits_alone y (strand_of i r) b.alone (route_visits d y r)) S.row)
            ∙ ap (lines_alone d b₀.row b.alone i) (routes_next S.here.able i h)
            ∙ S.alone_rest;
        pair_rest =
            ap (λ (p : List ℕ). lines_pair d b₀.row p (i + 1) (drop (i + 1) d.routes))
            (U.pairs ∙ ap (λ (y : ℕ). visits_pair y i b.pairs (route_visits d y r)) S.row)
            ∙ ap (lines_pair d b₀.row b.pairs i) (routes_next S.here.able i h)
            ∙ S.pair_rest;
      }

  module _ (h : lines ≤ i) where
    routes_done : drop i (drawn_in list sheet forward lines).routes ≡ []
    routes_done =
        drop_of_length-le (drawn_in list sheet forward lines).routes {i = i}
        (omega (arith, lines_counted (station_of list) sheet forward lines))

    pub sweeping_end : LinesSwept (drawn_in list sheet forward lines) b₀ b
    unfolding lines_alone lines_pair
    sweeping_end = record { row = S.row; alone = rw routes_done at S.alone_rest; pairs = rw routes_done at S.pair_rest }

-- The rows: those below row y have been swept.
pub record Rising (list sheet : List ℕ) (forward : List Bool) (lines height : ℕ) (b₀ b : Boards) (y : ℕ) : Type 0 where
  pub alone_rest :
      rows_alone (drawn_in list sheet forward lines) b.alone y (height + 1 - y)
      ≡ rows_alone (drawn_in list sheet forward lines) b₀.alone 0 ((drawn_in list sheet forward lines).height + 1)
  pub pair_rest :
      rows_pair (drawn_in list sheet forward lines) b.pairs y (height + 1 - y)
      ≡ rows_pair (drawn_in list sheet forward lines) b₀.pairs 0 ((drawn_in list sheet forward lines).height + 1)

pub rising_start :
    (list sheet : List ℕ) (forward : List Bool) (lines : ℕ) {height : ℕ} {b : Boards} → height ≡ second_of (get_or sheet 0 0)
    → Rising list sheet forward lines height b b 0
unfolding faced_drawing drawing_in
rising_start list sheet forward lines {height} {b} e =
    let z : height + 1 - 0 ≡ second_of (get_or sheet 0 0) + 1 = omega arith in
    record {
      alone_rest = ap (rows_alone (drawn_in list sheet forward lines) b.alone 0) z;
      pair_rest = ap (rows_pair (drawn_in list sheet forward lines) b.pairs 0) z;
    }

-- the words of the parts, of which there are at most 512
module _ {list sheet : List ℕ} {forward : List Bool} {lines : ℕ} (A : Sweepable list sheet forward lines)
    {n : ℕ} (e : n ≡ (station_of list).parts) where
  pub parts_inside : 1 + n ≤ length sheet
  parts_inside = omega (arith, e, sheet_words_lem A)

  pub parts_few : length (take (1 + n - 1) (drop 1 sheet)) ≤ 512
  parts_few = rw length-take (omega (arith, e, (list_wired list A.passed).most))

  pub parts_read : map word_spot (take (1 + n - 1) (drop 1 sheet)) ≡ (drawn_in list sheet forward lines).parts
  unfolding faced_drawing drawing_in
  parts_read = let k : 1 + n - 1 ≡ (station_of list).parts = omega (arith, e) in rw k

module _
    {list sheet : List ℕ} {forward : List Bool} {lines height : ℕ} {b₀ b : Boards} {y : ℕ}
    (R : Rising list sheet forward lines height b₀ b y) where
  pub rising_next :
      {marked b' : Boards} {parts : List Spot} → y < height + 1 → parts ≡ (drawn_in list sheet forward lines).parts
      → Marked (record { row = y; alone = b.alone; pairs = b.pairs }) parts marked
      → LinesSwept (drawn_in list sheet forward lines) marked b' → Rising list sheet forward lines height b₀ b' (y + 1)
  unfolding rows_alone rows_pair
  rising_next h e M U =
      let z : height + 1 - y ≡ suc (height + 1 - (y + 1)) = omega arith in
      record {
        alone_rest = rw (U.alone, M.row, M.alone, e) (rw z at R.alone_rest);
        pair_rest = rw (U.pairs, M.row, M.pairs) (rw z at R.pair_rest);
      }

  pub rising_end :
      height + 1 ≤ y
      → (b.alone ≡ rows_alone (drawn_in list sheet forward lines) b₀.alone 0 ((drawn_in list sheet forward lines).height + 1))
      × (b.pairs ≡ rows_pair (drawn_in list sheet forward lines) b₀.pairs 0 ((drawn_in list sheet forward lines).height + 1))
  unfolding rows_alone rows_pair
  rising_end h = let z : height + 1 - y ≡ 0 = omega arith in (rw z at R.alone_rest, rw z at R.pair_rest)
