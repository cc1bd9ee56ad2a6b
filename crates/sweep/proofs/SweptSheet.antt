-- What the two numbers that a sweep finds say of a sheet is what check 20 says of it. Assumes nothing.
use Rattle.std.specs.Prelude.{Some, None}
use Prim.Native.Nat.{ℕ, ◌<◌, ◌≤◌}
use native.Mathlib.Omega.{arith}
use native.Mathlib.Decide.{dec_lt}
use mathlib.Core.Path.{◌≡◌, refl, sym, ap, ◌∙◌, subst}
use mathlib.Core.Bool.{Bool, true, false, cond, not, ◌||◌, true≢false}
use mathlib.Core.List.{List, Memᴰ}
use lib.ListN.{length, get_or}
use lib.Dec.{ltb}
use borrow.Author.Tests.{lt-ltb, le-ltb, not-true, not-false}
use Rattle.lists.specs.Search.{seek}
use Rattle.lists.specs.Select.{any, range}
use Rattle.lists.proofs.Bools.{or_left, or_right, not_e, not_i, same_test}
use Rattle.checks.specs.Checks.{Clear}
use Rattle.station.specs.Station.{Station, Cable, no_cable, station_of}
use Rattle.station.specs.Code.{Wired}
use Rattle.order.specs.Checks.{all_checks}
use Rattle.order.proofs.Passed.{list_wired, lines_most}
use Rattle.geometry.specs.Spots.{Spot, spot_at}
use Rattle.geometry.specs.Lines.{point}
use Rattle.drawing.specs.Drawing.{Route, Drawing, spot_of, route_at, route_points, points_at}
use Rattle.drawing.specs.Reading.{drawing_in}
use Rattle.validation.specs.Alone.{alternates, lone, touches_itself}
use Rattle.validation.specs.Directions.{shown}
use Rattle.validation.specs.Judging.{Fits, together}
use Rattle.validation.specs.Layout.{Follows}
use Rattle.validation.specs.Rules.{ends_at, points_read, right_read, wrong_alone, points_right, wrong_pair, check20}
use Rattle.validation.proofs.Accepting.{ends_below, read_in, route_directed, points_inside}
use Rattle.validation.proofs.Alone.{alternates_e, alternates_i, lone_e, lone_alternates, touches_not_i}
use Rattle.validation.proofs.Facing.{forward_faces, forward_faced, backward_faced}
use Rattle.validation.proofs.Following.{parts_counted, part_fits}
use Rattle.validation.proofs.Judging.{line_fits}
use Rattle.sweep.specs.Visits.{Visit}
use Rattle.sweep.specs.Sweep.{route_visits, lowest_alone, lowest_pair}
use Rattle.sweep.specs.Rows.{visits_of, columns, repeats, Roomy}
use Rattle.sweep.specs.Judged.{facing, alternates_facing, Faced, ends_faced, faced_drawing, judged}
use Rattle.sweep.proofs.Visits.{visited_on_line}
use Rattle.sweep.proofs.Repeats.{repeats_touch}
use Rattle.sweep.proofs.FacedDrawing.{ends_counted, end_faced, lines_counted}
use Rattle.sweep.proofs.AloneLines.{wrong_row, row_wrong}
use Rattle.sweep.proofs.AloneTable.{alone_sound, alone_complete}
use Rattle.sweep.proofs.Rising.{LoneLine, LineInHead, pair_together, pair_either, lowest_seek, lowest_of_pairs}
use Rattle.sweep.proofs.PairLines.{wrong_pair_lem, pair_wrong}
use Rattle.sweep.proofs.PairTable.{pair_most, pair_sound, pair_complete}

-- The direction that a cable faces

module _ (st : Station) (d : Drawing) (i : ℕ) where
  abbrev cable : Cable
  cable = get_or st.cables i no_cable

  -- a cable that is right from either end is so in the direction that it faces
  faced_right : (right_read st d true i || right_read st d false i) ≡ true → right_read st d (facing st d i) i ≡ true
  unfolding right_read points_read route_points facing
  faced_right h = go (facing st d i) refl
    where
      go : (f : Bool) → facing st d i ≡ f → right_read st d f i ≡ true
      go true e = forward_faced st.parts (spot_of d) cable.one cable.other (route_at d i).corners h e
      go false e = backward_faced st.parts (spot_of d) cable.one cable.other (route_at d i).corners h e

  one_right : (f : Bool) → right_read st d f i ≡ true → (right_read st d true i || right_read st d false i) ≡ true
  one_right true h = or_left (right_read st d true i) (right_read st d false i) h
  one_right false h = or_right (right_read st d true i) (right_read st d false i) h

  pub wrong_faced : wrong_alone st d i ≡ not (right_read st d (facing st d i) i)
  unfolding wrong_alone
  wrong_faced =
      ap not (same_test (right_read st d true i || right_read st d false i) (right_read st d (facing st d i) i) faced_right
      (one_right (facing st d i)))

  -- and that direction is the one taken
  forward_taken : right_read st d true i ≡ true → facing st d i ≡ true
  unfolding right_read points_read route_points facing
  forward_taken h =
      forward_faces st.parts (spot_of d) cable.one cable.other (route_at d i).corners
      (lone_e st.parts (spot_of d) cable.one cable.other (points_read st d true i) h)

  facing_taken : right_read st d (facing st d i) i ≡ true → right_read st d true i ≡ facing st d i
  facing_taken h =
      same_test (right_read st d true i) (facing st d i) forward_taken (λ e. ap (λ (f : Bool). right_read st d f i) (sym e) ∙ h)

  right_alternates : (f : Bool) → right_read st d f i ≡ true → alternates (points_read st d f i) ≡ true
  unfolding right_read
  right_alternates f h =
      let a = (ends_at st f i).first in
      let b = (ends_at st f i).last in
      let ps = points_read st d f i in
      alternates_i ps (lone_alternates st.parts (spot_of d) a b ps (lone_e st.parts (spot_of d) a b ps h))

  -- a cable that does not alternate in the direction that it faces is wrong
  pub unsteady_wrong : alternates_facing st d i ≡ false → wrong_alone st d i ≡ true
  unfolding alternates_facing
  unsteady_wrong h = wrong_faced ∙ not_i (right_read st d (facing st d i) i) λ e. true≢false (sym (right_alternates (facing st d i) e) ∙ h)

-- The drawing of the first lines

module _
    (st : Station) (sheet : List ℕ) (forward : List Bool) (lines : ℕ) (W : Wired st) (most : length st.cables ≤ 1024)
    (F : Follows st.parts (length st.cables) sheet) (Z : Faced st sheet forward lines)
  where
    abbrev n : ℕ
    n = st.parts

    abbrev m : ℕ
    m = length st.cables

    -- every cable read forward, and the first ones as they face
    abbrev forth : Drawing
    forth = shown st sheet

    abbrev d : Drawing
    d = faced_drawing st sheet forward lines

    abbrev way : ℕ → Bool
    way i = facing st forth i

    parts_same : length d.parts ≡ n
    unfolding faced_drawing
    parts_same = parts_counted n m (ends_faced st forward lines) sheet F

    lines_same : length d.routes ≡ lines
    lines_same = lines_counted st sheet forward lines

    -- the cable at a line, as it faces
    route_same : (i : ℕ) → i < lines → route_at d i ≡ read_in st forth (way i) i
    unfolding faced_drawing
    route_same i l =
        route_directed st sheet (ends_faced st forward lines) i (way i) (omega (arith, Z.few))
        (omega (arith, ends_counted st sheet forward lines))
        (end_faced st sheet forward lines i l ∙ ap (λ (f : Bool). ends_at st f i) (Z.flags i l))

    -- its points, and the test of it by itself
    points_same : (i : ℕ) → i < lines → points_at d i ≡ points_read st forth (way i) i
    unfolding points_at points_read faced_drawing shown drawing_in spot_of route_points
    points_same i l = ap (route_points d) (route_same i l)

    abbrev single : ℕ → Bool
    single i = lone (length d.parts) (spot_of d) (route_at d i).first (route_at d i).last (route_points d (route_at d i))

    single_same : (i : ℕ) → i < lines → single i ≡ right_read st forth (way i) i
    unfolding right_read points_read faced_drawing shown drawing_in spot_of route_points
    single_same i l =
        ap (λ (k : ℕ). lone k (spot_of d) (route_at d i).first (route_at d i).last (route_points d (route_at d i))) parts_same
        ∙ ap (λ (r : Route). lone n (spot_of d) r.first r.last (route_points d r)) (route_same i l)

    steady : (i : ℕ) → i < lines → alternates (points_at d i) ≡ true
    unfolding alternates_facing
    steady i l = ap alternates (points_same i l) ∙ Z.alternate i l

    wrong_single : (i : ℕ) → i < lines → wrong_alone st forth i ≡ not (single i)
    wrong_single i l = wrong_faced st forth i ∙ ap not (sym (single_same i l))

    -- What the tables ask

    in_head : (i : ℕ) → i < lines → LineInHead d i
    unfolding faced_drawing shown drawing_in points_read
    in_head i l =
        subst (λ (ps : List Spot). (k : ℕ) → k < length ps → Fits d.width d.height (point ps k)) (sym (points_same i l))
        (points_inside st sheet W F (way i) i (omega (arith, Z.few)))

    two_parts : (f : Bool) (i : ℕ) → i < m → (ends_at st f i).first ≡ (ends_at st f i).last → ⊥
    two_parts true i l e = W.loopless i l e
    two_parts false i l e = W.loopless i l (sym e)

    joined : (i : ℕ) → i < lines → ((route_at d i).first < length d.parts) × ((route_at d i).last < length d.parts)
    joined i l = rw (route_same i l, parts_same) (ends_below st W (way i) i)

    apart : (i : ℕ) → i < lines → (route_at d i).first ≡ (route_at d i).last → ⊥
    apart i l = rw (route_same i l) (two_parts (way i) i (omega (arith, Z.few)))

    narrow : d.width < 4096
    unfolding faced_drawing drawing_in
    narrow = omega arith

    visit_low : (y i : ℕ) (v : Visit) → i < lines → Memᴰ v (visits_of d y i) → v.column < 4096
    unfolding points_at route_points route_visits
    visit_low y i v l h =
        let r = route_at d i in
        let A = alternates_e (points_at d i) (steady i l) in
        let o = visited_on_line (spot_of d r.first) r.corners (spot_of d r.last) A.straight y h in
        omega (arith, (line_fits d.width d.height (points_at d i) (in_head i l) (spot_at v.column y) o).across, narrow)

    spot_low : (p : ℕ) → p < n → (spot_of d p).x < 4096
    unfolding faced_drawing
    spot_low p l = omega (arith, (part_fits n m (ends_faced st forward lines) sheet F p l).across, narrow)

    roomy : Roomy d
    roomy = record {
      parts = omega (arith, parts_same, W.most);
      lines = omega (arith, lines_same, Z.few);
      spots = λ p l. spot_low p (omega (arith, parts_same));
      visits = λ y i v l h. visit_low y i v (omega (arith, lines_same)) h;
    }

    table_joined : (i : ℕ) → i < length d.routes → ((route_at d i).first < length d.parts) × ((route_at d i).last < length d.parts)
    table_joined i l = joined i (omega (arith, lines_same))

    -- Lines by themselves

    abbrev alone : ℕ
    alone = lowest_alone d

    alone_found : alone < lines → wrong_alone st forth alone ≡ true
    unfolding points_at
    alone_found l =
        wrong_single alone l
        ∙ ap not (wrong_row d alone (steady alone l) (alone_sound d roomy table_joined (omega (arith, lines_same))))

    alone_lowest : (i : ℕ) → i < lines → wrong_alone st forth i ≡ true → alone ≤ i
    unfolding points_at
    alone_lowest i l h =
        let f = not-true (single i) (sym (wrong_single i l) ∙ h) in
        alone_complete d roomy table_joined i (omega (arith, lines_same))
        (row_wrong d i (steady i l) (joined i l).0 (joined i l).1 (apart i l) (λ k g. (in_head i l k g).up) f)

    -- All lines, each right by itself

    module _ (all : lines ≡ m) (none : lines ≤ alone) where
      right : (i : ℕ) → i < lines → single i ≡ true
      right i l =
          not-false (single i)
          (sym (wrong_single i l) ∙ not-true (wrong_alone st forth i) (not_i (wrong_alone st forth i) λ h. omega (arith, alone_lowest i l h)))

      lone_line : (i : ℕ) → i < lines → LoneLine d i
      unfolding points_at
      lone_line i l =
          let r = route_at d i in
          lone_e (length d.parts) (spot_of d) r.first r.last (points_at d i) (right i l)

      never_again : (y i : ℕ) → y ≤ d.height → i < length d.routes → repeats (columns (visits_of d y i)) ≡ false
      unfolding points_at route_points route_visits
      never_again y i t h =
          let l : i < lines = omega (arith, lines_same) in
          let r = route_at d i in
          not-true (repeats (columns (visits_of d y i)))
          (not_i (repeats (columns (visits_of d y i))) λ e.
          not_e (touches_itself (points_at d i)) (touches_not_i (points_at d i) (lone_line i l).itself)
          (repeats_touch (spot_of d r.first) r.corners (spot_of d r.last) (steady i l) y e))

      -- the line that is judged with others is the line as it faces
      points_judged : (i : ℕ) → i < lines → points_right st forth i ≡ points_at d i
      unfolding points_right
      points_judged i l =
          ap (λ (f : Bool). points_read st forth f i) (facing_taken st forth i (sym (single_same i l) ∙ right i l)) ∙ sym (points_same i l)

      abbrev badly : ℕ → ℕ → Bool
      badly i j = not (together forth.width forth.height (points_right st forth i) (points_right st forth j))

      badly_same : (i j : ℕ) → i < lines → j < lines → badly i j ≡ not (pair_together d i j)
      unfolding faced_drawing shown drawing_in
      badly_same i j l k =
          ap (λ (ps : List Spot). not (together d.width d.height ps (points_right st forth j))) (points_judged i l)
          ∙ ap (λ (qs : List Spot). not (together d.width d.height (points_at d i) qs)) (points_judged j k)

      abbrev pair : ℕ
      pair = lowest_pair d

      pair_found : pair < lines → (j : ℕ) × (pair < j) × (j < lines) × (badly pair j ≡ true)
      pair_found l =
          let (j, g, h, w) = pair_sound d roomy never_again (omega (arith, lines_same)) in
          let k : j < lines = omega (arith, lines_same) in
          (j, g, k, badly_same pair j l k ∙ ap not (wrong_pair_lem d pair j (lone_line pair l) (lone_line j k) (in_head pair l) w))

      pair_lowest : (i j : ℕ) → i < j → j < lines → badly i j ≡ true → pair ≤ i
      pair_lowest i j g k h =
          let l : i < lines = omega arith in
          let f = not-true (pair_together d i j) (sym (badly_same i j l k) ∙ h) in
          pair_complete d roomy never_again i j g (omega (arith, lines_same)) (pair_wrong d i j (lone_line i l) (lone_line j k) f)

      badly_either : (i j : ℕ) → i < lines → j < lines → badly i j ≡ badly j i
      badly_either i j l k =
          badly_same i j l k ∙ ap not (pair_either d i j (lone_line i l) (lone_line j k) (in_head i l) (in_head j k))
          ∙ sym (badly_same j i k l)

      pairs_sought : seek (λ i. any (wrong_pair st forth i) (range m)) 0 m ≡ cond (ltb pair lines) (Some pair) None
      unfolding wrong_pair
      pairs_sought =
          rw (← all)
          (lowest_of_pairs badly lines pair (omega (arith, pair_most d roomy never_again, lines_same)) pair_found pair_lowest
          (λ i j l k e. badly_either i j l k))

    -- Check 20

    next_wrong : lines < m → wrong_alone st forth lines ≡ true
    next_wrong l = unsteady_wrong st forth lines (Z.next l)

    -- the lowest line that is wrong by itself: of those that are swept, or the next
    alone_sought :
        (k : ℕ) → k ≤ m → (k < m → wrong_alone st forth k ≡ true) → k ≤ lines → k ≤ alone
        → seek (wrong_alone st forth) 0 m ≡ cond (ltb k m) (Some k) None
    alone_sought k g f b c = lowest_seek (wrong_alone st forth) m k g f λ i l h. lowest i h (dec_lt i lines)
      where
        lowest : (i : ℕ) → wrong_alone st forth i ≡ true → Dec (i < lines) → k ≤ i
        lowest i h (yes l) = omega (arith, alone_lowest i l h)
        lowest i h (no l) = omega arith

    -- the two numbers say what check 20 says
    pub swept_station : judged (lowest_alone d) (lowest_pair d) lines m ≡ check20 st sheet
    unfolding judged check20
    swept_station = go (dec_lt alone lines) (dec_lt lines m)
      where
        few : lines ≤ m
        few = Z.few

        go : Dec (alone < lines) → Dec (lines < m) → judged alone (lowest_pair d) lines m ≡ check20 st sheet
        go (yes a) b =
            let e = alone_sought alone (omega (arith, few)) (λ h. alone_found a) (omega arith) (omega arith) in
            rw (lt-ltb alone lines a, e, lt-ltb alone m (omega (arith, few)))
        go (no a) (yes b) =
            let e = alone_sought lines few next_wrong (omega arith) (omega arith) in
            rw (le-ltb alone lines (omega arith), e, lt-ltb lines m b)
        go (no a) (no b) =
            let e = alone_sought lines few next_wrong (omega arith) (omega arith) in
            let p = pairs_sought (omega (arith, few)) (omega arith) in
            rw (le-ltb alone lines (omega arith), e, le-ltb lines m (omega arith), p)

-- so they do for a list that passes its checks and a sheet that follows the layout
pub swept_judged :
    (list sheet : List ℕ) (forward : List Bool) (lines : ℕ) → Clear all_checks list
    → Follows (station_of list).parts (length (station_of list).cables) sheet → Faced (station_of list) sheet forward lines
    → judged (lowest_alone (faced_drawing (station_of list) sheet forward lines))
    (lowest_pair (faced_drawing (station_of list) sheet forward lines)) lines
    (length (station_of list).cables)
    ≡ check20 (station_of list) sheet
swept_judged list sheet forward lines pass F Z =
    swept_station (station_of list) sheet forward lines (list_wired list pass) (lines_most list pass) F Z
