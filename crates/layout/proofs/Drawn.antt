-- The layout of an st-graph as a drawing: its parts and routes, how they meet in every spacing and cross, its sizes and its words. Assumes
-- nothing.
use Prim.Native.Nat.{ℕ, zero, suc, ◌+◌, ◌-◌, ◌*◌, ◌<◌, ◌≤◌}
use native.Mathlib.Omega.{arith}
use mathlib.Core.Path.{◌≡◌, refl, sym, ap, ap₂, subst, subst₂, ◌∙◌}
use mathlib.Core.Logic.{◌⊎◌, ⊎_elim}
use mathlib.Core.List.Memᴰ
use mathlib.Core.List.{List, [], ◌∷◌, ◌++◌, map, Memᴰ}
use lib.ListN.{length, get_or}
use Rattle.words.specs.Limits.{most_parts, most_field}
use Rattle.lists.specs.Select.{tabulate, sum}
use Rattle.lists.proofs.Select.{get_d_mem, get_d_tabulate, length_tabulate}
use Rattle.lists.proofs.Places.{mem-place, first_between_last}
use Rattle.lists.proofs.Maps.{map_tabulate}
use Rattle.lists.proofs.Sums.{sum_le}
use Rattle.lists.proofs.Increasing.{increasing_le}
use Rattle.order.specs.Graph.{StGraph, size, lower, upper, EndsOnce}
use Rattle.order.specs.RankedGraphs.{Ranked}
use Rattle.order.proofs.Graphs.{lower_inside, cables_le}
use Rattle.drawing.specs.declared.spacing.Spacing.{Spacing}
use Rattle.geometry.specs.Spots.{Spot, origin}
use Rattle.geometry.specs.Lines.{point, Meetings}
use Rattle.geometry.specs.Crossing.{lines_cross}
use Rattle.drawing.specs.Drawing.{Route, no_route, Drawing, spot_of, route_points, route_at, points_at, Meets, cross_pair}
use Rattle.drawing.specs.Lengths.{line_length, cable_lengths, most_length}
use Rattle.drawing.specs.Spacing.{column_at, row_at, spaced_spot, spaced, on_grid}
use Rattle.drawing.specs.Sheet.{sheet_words}
use Rattle.drawing.specs.Reading.{Endpoints, no_endpoints}
use Rattle.drawing.specs.Counts.{corner_count}
use Rattle.geometry.proofs.Renaming.{renamed}
use Rattle.drawing.proofs.Lengths.{lengths_count, length_at}
use Rattle.drawing.proofs.LengthWords.{LengthsFit}
use Rattle.drawing.proofs.Inside.{Inside}
use Rattle.drawing.proofs.Spaced.{Increases, grid_increases, parts_spaced, routes_spaced, spot_spaced, first_spaced, last_spaced, points_inside, unspaced}
use Rattle.drawing.proofs.WordCounts.{words_length}
use Rattle.drawing.specs.Sizes.{ManyBends, Bends}
use Rattle.drawing.proofs.Sized.{Joins, GridSizes, many_bends_of}
use Rattle.layout.specs.Columns.{bottom_line, top_line, columns}
use Rattle.layout.specs.Points.{turns, points_of, inner, corners_of, bottom_rows, top_rows, part_spot, course, rank_spot, course_of}
use Rattle.layout.specs.Layout.{drawn_in, layout}
use Rattle.layout.specs.Over.{courses_cross}
use Rattle.layout.specs.Courses.{spaced_course, CourseFits, LengthFits}
use Rattle.layout.proofs.Turns.{turns_points}
use Rattle.layout.proofs.ExtraRows.{bottom_rows_le, top_rows_le}
use Rattle.layout.proofs.Placed.{facts}
use Rattle.layout.proofs.Meet.{meetings}
use Rattle.layout.proofs.Maps.{meetings_map}
use Rattle.layout.proofs.SpacedCourses.{points_of_spaced}
use Rattle.layout.proofs.Cross.{lines_cross_courses}
use Rattle.layout.proofs.Sizes.{part_column_below, rising, corners_four, corners_which, corners_three, corners_two, spots_within, points_within, columns_count, corners_sum, width_spot, height_spot}
use Rattle.layout.proofs.LineLengths.{line_most}

-- on plain numbers: the count of columns is one more than the width, the count of rows one more than the height
width_number : (c n m : ℕ) → c + n ≡ m + 2 → 0 < c → suc (m + 1 - n) ≡ c
width_number c n m e h = omega arith

height_number : (n d e : ℕ) → 2 ≤ n → suc (n - 1 + d + e) ≡ n + d + e
height_number n d e h = omega arith

module _ (G : StGraph) where
  -- the cable at line i as it is drawn, and its two ranks
  abbrev pub route_of : ℕ → Route
  route_of i = record { first = lower G i; last = upper G i; corners = corners_of (course_of G i) }

  abbrev pub ends_of : ℕ → Endpoints
  ends_of i = record { first = lower G i; last = upper G i }

  pub parts_count : length (layout G).parts ≡ G.parts
  unfolding layout drawn_in
  parts_count = length_tabulate G.parts _

  pub routes_are : (layout G).routes ≡ tabulate (size G) route_of
  unfolding layout drawn_in course_of
  routes_are = refl

  pub routes_count : length (layout G).routes ≡ size G
  routes_count = ap length routes_are ∙ length_tabulate (size G) _

  pub spot_of_lem : (k : ℕ) → k < G.parts → spot_of (layout G) k ≡ rank_spot G k
  unfolding spot_of layout drawn_in rank_spot
  spot_of_lem k h = get_d_tabulate G.parts _ k origin h

  pub route_at_lem : (i : ℕ) → i < size G → route_at (layout G) i ≡ route_of i
  unfolding route_at
  route_at_lem i h = ap (λ (l : List Route). get_or l i no_route) routes_are ∙ get_d_tabulate (size G) _ i no_route h

  -- the corners of all routes
  corner_count_lem : corner_count (layout G).routes ≡ sum (tabulate (size G) (λ i. length (corners_of (course_of G i))))
  corner_count_lem = ap corner_count routes_are ∙ ap sum (map_tabulate (λ (r : Route). length r.corners) (size G) route_of)

module _ (G : StGraph) (R : Ranked G) where
  abbrev line : ℕ → List Spot
  line i = points_of (course_of G i)

  -- Meetings

  by_rank : Meetings G.parts (size G) (rank_spot G) (lower G) (upper G) line
  unfolding rank_spot part_spot course_of course
  by_rank = meetings G _ _ _ _ _ (facts G R)

  first_at : (i : ℕ) → i < size G → (route_at (layout G) i).first ≡ lower G i
  first_at i h = ap (λ (r : Route). r.first) (route_at_lem G i h)

  last_at : (i : ℕ) → i < size G → (route_at (layout G) i).last ≡ upper G i
  last_at i h = ap (λ (r : Route). r.last) (route_at_lem G i h)

  corners_at : (i : ℕ) → i < size G → (route_at (layout G) i).corners ≡ corners_of (course_of G i)
  corners_at i h = ap (λ (r : Route). r.corners) (route_at_lem G i h)

  first_spot : (i : ℕ) → i < size G → spot_of (layout G) (route_at (layout G) i).first ≡ rank_spot G (lower G i)
  first_spot i h = ap (spot_of (layout G)) (first_at i h) ∙ spot_of_lem G (lower G i) (lower_inside G R i h)

  last_spot : (i : ℕ) → i < size G → spot_of (layout G) (route_at (layout G) i).last ≡ rank_spot G (upper G i)
  last_spot i h = ap (spot_of (layout G)) (last_at i h) ∙ spot_of_lem G (upper G i) (R.inside i h)

  -- the points of a cable are those of its course
  pub points_at_lem : (i : ℕ) → i < size G → line i ≡ points_at (layout G) i
  unfolding points_at route_points corners_of inner point
  points_at_lem i h =
      let d : Drawing = layout G in
      sym (first_between_last (line i) (spot_of d (route_at d i).first) (spot_of d (route_at d i).last) origin
      (by_rank.alone i h).two ((by_rank.alone i h).starts ∙ sym (first_spot i h)) (λ k e. (by_rank.alone i h).ends k e ∙ sym (last_spot i h)))
      ∙ ap (λ (l : List Spot). spot_of d (route_at d i).first ∷ (l ++ spot_of d (route_at d i).last ∷ [])) (sym (corners_at i h))

  ends_inside : (i : ℕ) → i < size G → Inside (length (layout G).parts) (route_at (layout G) i)
  ends_inside i h = record {
    first_inside = omega (arith, first_at i h, lower_inside G R i h, parts_count G);
    last_inside = omega (arith, last_at i h, R.inside i h, parts_count G);
  }

  -- 2026-06: 'What holds between two cables is shown once for all spacings'

  module _ (s : Spacing) (I : Increases s) where
    spaced_by_rank :
        Meetings G.parts (size G) (λ k. spaced_spot s (rank_spot G k)) (lower G) (upper G) (λ i. points_of (spaced_course s (course_of G i)))
    unfolding rank_spot part_spot course_of course spaced_spot spaced_course
    spaced_by_rank = meetings_map (column_at s) (row_at s) I.columns I.rows G _ _ _ _ _ (facts G R)

    parts_there : length (spaced s (layout G)).parts ≡ G.parts
    parts_there = parts_spaced s (layout G) ∙ parts_count G

    routes_there : length (spaced s (layout G)).routes ≡ size G
    routes_there = routes_spaced s (layout G) ∙ routes_count G

    on_grid_lem : (i : ℕ) → i < size G → i < length (layout G).routes
    on_grid_lem i h = omega (arith, routes_count G)

    first_there : (i : ℕ) → i < size G → (route_at (spaced s (layout G)) i).first ≡ lower G i
    first_there i h = first_spaced s (layout G) i (on_grid_lem i h) ∙ first_at i h

    last_there : (i : ℕ) → i < size G → (route_at (spaced s (layout G)) i).last ≡ upper G i
    last_there i h = last_spaced s (layout G) i (on_grid_lem i h) ∙ last_at i h

    points_there : (i : ℕ) → i < size G → points_of (spaced_course s (course_of G i)) ≡ points_at (spaced s (layout G)) i
    points_there i h =
        points_of_spaced s I (course_of G i) ∙ ap (map (spaced_spot s)) (points_at_lem i h) ∙ sym (points_inside s (layout G) i (on_grid_lem i h) (ends_inside i h))

    pub meets_spaced : Meets (spaced s (layout G))
    meets_spaced =
        let d : Drawing = spaced s (layout G) in
        subst₂ (λ (n m : ℕ). Meetings n m (spot_of d) (λ i. (route_at d i).first) (λ i. (route_at d i).last) (points_at d)) (sym parts_there) (sym routes_there)
        (renamed G.parts (size G) (λ k. spaced_spot s (rank_spot G k)) (lower G) (upper G) (λ i. points_of (spaced_course s (course_of G i)))
        (λ k. k) (spot_of d) (λ i. (route_at d i).first) (λ i. (route_at d i).last) (points_at d)
        (record {
          inside = λ k h. h;
          one = λ j k h g e. e;
          spots = λ k h. spot_spaced s (layout G) k (omega (arith, parts_count G)) ∙ ap (spaced_spot s) (spot_of_lem G k h);
          first_inside = λ i h. omega (arith, first_there i h, lower_inside G R i h);
          last_inside = λ i h. omega (arith, last_there i h, R.inside i h);
          first_rank = first_there;
          last_rank = last_there;
          same = points_there;
        })
        spaced_by_rank)

  -- and so on the grid
  pub meets : Meets (layout G)
  meets = subst Meets (unspaced (layout G)) (meets_spaced on_grid grid_increases)

  -- Crossings

  -- The test on numbers agrees with the definition, for every two different cables, sharing a part or not (2026-02).
  pub pair_crosses :
      (i j : ℕ) → i < size G → j < size G → (i ≡ j → ⊥)
      → cross_pair (layout G) (route_at (layout G) i) (route_at (layout G) j) ≡ courses_cross (course_of G i) (course_of G j)
  unfolding cross_pair points_at course_of course rank_spot part_spot
  pair_crosses i j g h f =
      ap₂ lines_cross (sym (points_at_lem i g)) (sym (points_at_lem j h)) ∙ lines_cross_courses G _ _ _ _ _ (facts G R) i j g h f

  module _ (two : 2 ≤ G.parts) where
    -- Sizes

    wide : 0 < (columns G G.parts).count
    wide = omega (arith, (spots_within G R 0 (omega arith)).0)

    pub parts_le : G.parts ≤ size G + 1
    parts_le = omega (arith, columns_count G R two, wide)

    width_is : suc (layout G).width ≡ (columns G G.parts).count
    unfolding layout drawn_in
    width_is = width_number (columns G G.parts).count G.parts (size G) (columns_count G R two) wide

    height_is : suc (layout G).height ≡ G.parts + bottom_rows G + top_rows G
    unfolding layout drawn_in
    height_is = height_number G.parts (bottom_rows G) (top_rows G) two

    corner_point : (i : ℕ) → i < size G → (s : Spot) → Memᴰ s (corners_of (course_of G i)) → Memᴰ s (line i)
    unfolding points_at route_points
    corner_point i h s m =
        subst (λ (l : List Spot). Memᴰ s l) (sym (points_at_lem i h))
        (Memᴰ.tail (Memᴰ.append_left _ (subst (λ (l : List Spot). Memᴰ s l) (sym (corners_at i h)) m)))

    abbrev Reached : (ℕ → List Spot) → (Spot → Type 0) → Type 0
    Reached points P = (i : ℕ) × (k : ℕ) × (i < size G) × (k < length (points i)) × P (point (points i) k)

    -- each rank is the lower or the upper one of some cable
    rank_reached : (P : Spot → Type 0) (k : ℕ) → k < G.parts → P (rank_spot G k) → Reached line P
    rank_reached P zero h p =
        let c = R.continued 0 (omega arith) in (
          c.0,
          0,
          c.1,
          omega (arith, (by_rank.alone c.0 c.1).two),
          subst P (sym ((by_rank.alone c.0 c.1).starts ∙ ap (rank_spot G) c.2)) p,
        )
    rank_reached P (suc k) h p =
        let c = R.entered (suc k) (omega arith) h in
        let last : ℕ = length (line c.0) - 1 in
        let b = (by_rank.alone c.0 c.1).two in
        (c.0, last, c.1, omega arith, subst P (sym ((by_rank.alone c.0 c.1).ends last (omega arith) ∙ ap (rank_spot G) c.2)) p)

    corner_reached : (P : Spot → Type 0) (i : ℕ) (s : Spot) → i < size G → Memᴰ s (corners_of (course_of G i)) → P s → Reached line P
    unfolding point
    corner_reached P i s h m p =
        let t = mem-place (line i) origin (corner_point i h s m) in
        (i, t.0, h, t.1, subst P (sym t.2) p)

    -- a spot of a rank or of a corner is a point of some cable
    reached :
        (P : Spot → Type 0) → ((k : ℕ) × (k < G.parts) × P (rank_spot G k)) ⊎ ((i : ℕ) × (s : Spot) × (i < size G) × Memᴰ s (corners_of (course_of G i)) × P s)
        → Reached (points_at (layout G)) P
    reached P t = drawn (⊎_elim (λ t. rank_reached P t.0 t.1 t.2) (λ t. corner_reached P t.0 t.1 t.2 t.3 t.4) t)
      where
        drawn : Reached line P → Reached (points_at (layout G)) P
        drawn r =
            let q = subst (λ (l : List Spot). (r.1 < length l) × P (point l r.1)) (points_at_lem r.0 r.2) (r.3, r.4) in
            (r.0, r.1, r.2, q.0, q.1)

    inside : (i k : ℕ) → i < size G → k < length (line i) → ((point (line i) k).x ≤ (layout G).width) × ((point (line i) k).y ≤ (layout G).height)
    unfolding point
    inside i k h g =
        let w = points_within G R i h (get_or (line i) k origin) (get_d_mem (line i) k origin g) in
        (omega (arith, w.0, width_is), omega (arith, w.1, height_is))

    rank_inside : (k : ℕ) → k < G.parts → ((rank_spot G k).x ≤ (layout G).width) × ((rank_spot G k).y ≤ (layout G).height)
    rank_inside k h = let w = spots_within G R k h in (omega (arith, w.0, width_is), omega (arith, w.1, height_is))

    -- '3m - n + 3 + d + e words', and m + 1 lengths (2026-01)
    pub words_count : (s : Spacing) → length (sheet_words s (layout G)) + G.parts ≡ 4 * size G + 4 + bottom_rows G + top_rows G
    words_count s = omega (arith, words_length s (layout G), parts_count G, routes_count G, corner_count_lem G, corners_sum G R two)

    -- no line is longer
    pub length_most : (i : ℕ) → i < size G → line_length (points_at (layout G) i) ≤ most_length G.parts
    length_most i h = omega (arith, ap line_length (points_at_lem i h), line_most G R two i h)

    -- '2m - 2n + 2 + d + e corners'
    pub corner_total : corner_count (layout G).routes + 2 * G.parts ≡ 2 * size G + 2 + bottom_rows G + top_rows G
    corner_total = omega (arith, corner_count_lem G, corners_sum G R two)

    -- Fields

    pub rank_column : (k : ℕ) → k < G.parts → get_or (columns G G.parts).parts k 0 ≤ (layout G).width
    rank_column k h = omega (arith, part_column_below G R G.parts k h, width_is)

    pub rank_row : (k : ℕ) → k < G.parts → bottom_rows G + k ≤ (layout G).height
    rank_row k h = omega (arith, height_is)

    turn_inside : (i : ℕ) → i < size G → (p : Spot) → Memᴰ p (turns (course_of G i)) → (p.x ≤ (layout G).width) × (p.y ≤ (layout G).height)
    turn_inside i h p t =
        let w = points_within G R i h p (turns_points (course_of G i) t) in
        (omega (arith, w.0, width_is), omega (arith, w.1, height_is))

    -- the numbers of a course fit their fields where the sheet's head does
    module _ (s : Spacing) (I : Increases s) (wide : (spaced s (layout G)).width ≤ most_field) (high : (spaced s (layout G)).height ≤ most_field) where
      pub column_fits : (x : ℕ) → x ≤ (layout G).width → column_at s x ≤ most_field
      unfolding spaced
      column_fits x h = omega (arith, increasing_le (column_at s) I.columns x (layout G).width h)

      pub row_fits : (y : ℕ) → y ≤ (layout G).height → row_at s y ≤ most_field
      unfolding spaced
      row_fits y h = omega (arith, increasing_le (row_at s) I.rows y (layout G).height h)

      spot_fits : (i : ℕ) → i < size G → (p : Spot) → Memᴰ p (turns (course_of G i)) → (column_at s p.x ≤ most_field) × (row_at s p.y ≤ most_field)
      spot_fits i h p t = let w = turn_inside i h p t in (column_fits p.x w.0, row_fits p.y w.1)

      pub course_fits : (i : ℕ) → i < size G → CourseFits (spaced_course s (course_of G i))
      unfolding turns spaced_course spaced_spot
      course_fits i h =
          let low = spot_fits i h _ (Memᴰ.tail (Memᴰ.tail (Memᴰ.head refl))) in
          let high = spot_fits i h _ (Memᴰ.tail (Memᴰ.tail (Memᴰ.tail (Memᴰ.head refl)))) in
          record {
            rises = I.rows _ _ (rising G R i h);
            from = spot_fits i h _ (Memᴰ.head refl);
            low = low.1;
            column = low.0;
            high = high.1;
            to = spot_fits i h _ (Memᴰ.tail (Memᴰ.tail (Memᴰ.tail (Memᴰ.tail (Memᴰ.tail (Memᴰ.head refl))))));
          }

    module _ (most : G.parts ≤ most_parts) where
      pub length_fits : (i : ℕ) → i < size G → LengthFits (course_of G i)
      length_fits i h = record { rises = rising G R i h; length = omega (arith, line_most G R two i h) }

      pub lengths_fit : LengthsFit (cable_lengths (layout G))
      unfolding cable_lengths
      lengths_fit = record {
        each = λ i h.
            let g : i < size G = omega (arith, lengths_count (layout G), routes_count G) in
            omega (arith, length_at (layout G) i (omega (arith, routes_count G)), length_most i g);
        total =
            omega (
              arith,
              sum_le (λ i. line_length (points_at (layout G) i)) (length (layout G).routes) (most_length most_parts)
                  (λ i h. omega (arith, length_most i (omega (arith, routes_count G)))),
              routes_count G,
              cables_le G R,
            );
      }

      pub few_lines : size G ≤ 65536
      few_lines = omega (arith, cables_le G R)

      pub ends_length : length (tabulate (size G) (ends_of G)) ≡ size G
      ends_length = length_tabulate (size G) _

      pub joins : Joins G.parts (tabulate (size G) (ends_of G)) (layout G)
      joins = record {
        parts_count = parts_count G;
        routes_count = routes_count G ∙ sym ends_length;
        routes = λ i h.
            let g : i < size G = omega (arith, ends_length) in
            let e : get_or (tabulate (size G) (ends_of G)) i no_endpoints ≡ ends_of G i = get_d_tabulate (size G) (ends_of G) i no_endpoints g in
            record {
              first_is = first_at i g ∙ sym (ap (λ (z : Endpoints). z.first) e);
              last_is = last_at i g ∙ sym (ap (λ (z : Endpoints). z.last) e);
              few = omega (arith, ap length (corners_at i g), corners_four G R i g);
            };
      }

      pub sizes : GridSizes G.parts (size G) (layout G)
      sizes = record {
        x_most = λ i k h. subst (λ (l : List Spot). k < length l → (point l k).x ≤ (layout G).width) (points_at_lem i h) (λ g. (inside i k h g).0);
        x_reached = let r = reached (λ s. suc s.x ≡ (columns G G.parts).count) (width_spot G R two) in (r.0, r.1, r.2, r.3, omega (arith, r.4, width_is));
        y_most = λ i k h. subst (λ (l : List Spot). k < length l → (point l k).y ≤ (layout G).height) (points_at_lem i h) (λ g. (inside i k h g).1);
        y_reached =
            let r = reached (λ s. suc s.y ≡ G.parts + bottom_rows G + top_rows G) (height_spot G R two) in (r.0, r.1, r.2, r.3, omega (arith, r.4, height_is));
        parts_within = λ p h. subst (λ (s : Spot). (s.x ≤ (layout G).width) × (s.y ≤ (layout G).height)) (sym (spot_of_lem G p h)) (rank_inside p h);
        width = omega (arith, width_is, columns_count G R two);
        height = omega (arith, height_is, bottom_rows_le G R, top_rows_le G R);
        corners = omega (arith, corner_total, bottom_rows_le G R, top_rows_le G R);
      }

      -- only the bottom and the top connection have more than two corners
      pub many_bends : 3 ≤ G.parts → ManyBends (size G) (bottom_line G) (top_line G) (layout G)
      many_bends three =
          many_bends_of (size G) (bottom_line G) (top_line G) (layout G) (routes_count G)
          (λ i h l. corners_which G R i h (omega (arith, ap length (corners_at i h))))
          (λ i h. omega (arith, ap length (corners_at i h), corners_three G R three i h))

      -- where the two lowest ranks, and the two highest, are joined once
      pub bends : 3 ≤ G.parts → EndsOnce G → Bends (size G) (layout G)
      bends three O = record { most = λ i h. omega (arith, ap length (corners_at i h), corners_two G R three O i h) }
