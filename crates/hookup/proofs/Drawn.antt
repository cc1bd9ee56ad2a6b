-- The drawing of a station that was not sent back: it is the layout of its cables in ranks, under the parts' own numbers, and has its
-- meetings, sizes, crossings, lengths and prices, in every spacing. Assumes nothing.
use Rattle.std.specs.Prelude.{Some, None, Option}
use Prim.Native.Nat.{ℕ, ◌+◌, ◌*◌, ◌<◌, ◌≤◌, ◌^◌, max}
use native.Mathlib.Omega.{arith}
use mathlib.Core.Path.{◌≡◌, refl, sym, ap, subst, subst₂, ◌∙◌}
use mathlib.Core.Bool.{cond}
use mathlib.Core.List.{List, map, Memᴰ}
use lib.ListN.{length, get_or, length-map}
use lib.Seq.{ext_get_or}
use borrow.Author.Tests.{le-ltb}
use Rattle.words.specs.Limits.{most_parts, most_cables, most_words, most_quoted_words, most_field}
use Rattle.prices.specs.Quoted.{Quoted}
use Rattle.lists.specs.Select.{tabulate, count}
use Rattle.lists.proofs.Select.{get_d_map, get_d_tabulate, length_tabulate}
use Rattle.station.specs.Station.{Station, no_cable}
use Rattle.order.specs.Order.{order, rank_in}
use Rattle.order.specs.StOrder.{StOrdering}
use Rattle.order.specs.Graph.{StGraph, size, EndsOnce}
use Rattle.order.specs.RankedGraphs.{Ranked}
use Rattle.order.specs.Orientation.{graph_of}
use Rattle.order.proofs.Bipolar.{Orderable}
use Rattle.order.proofs.StOrder.{order_ordering}
use Rattle.order.proofs.Ranks.{order_ranked, graph_parts, graph_size, rank_below, part_of_rank, rank_of_part}
use Rattle.order.proofs.Graphs.{cables_le}
use Rattle.order.proofs.Orientation.{lower_part_lem, upper_part_lem}
use Rattle.drawing.specs.declared.spacing.Spacing.{Spacing}
use Rattle.drawing.specs.Drawing.{Drawing, spot_of, points_at, Meets, crossings, renumbered}
use Rattle.drawing.specs.Lengths.{line_length, cable_lengths, most_length}
use Rattle.drawing.specs.Spacing.{spaced, on_grid, too_large, check14}
use Rattle.drawing.specs.Sheet.{sheet_words, quoted_words}
use Rattle.drawing.specs.Reading.{Endpoints, no_endpoints, lengths_in, quote_in}
use Rattle.drawing.specs.Counts.{corner_count, is_corner}
use Rattle.drawing.specs.Sizes.{Sizes, ManyBends, Bends}
use Rattle.drawing.specs.Measured.{Measured}
use Rattle.drawing.proofs.LengthWords.{LengthsFit}
use Rattle.drawing.proofs.ReadBack.{SpotFits, DrawingFits}
use Rattle.drawing.proofs.Spaced.{Increases, Spreads, increases, passed_13, grid_passes, parts_spaced, unspaced}
use Rattle.drawing.proofs.SpacedCrossings.{crossings_spaced}
use Rattle.drawing.proofs.Fields.{head_decides}
use Rattle.drawing.proofs.Quoted.{quoted_length, quoted_renumbered, drawing_read, lengths_read, quote_read, quoted_fits, quoted_corners}
use Rattle.drawing.proofs.Renumbered.{Names, routes_renumbered, points_renumbered, lengths_renumbered, meets_renumbered, crossings_renumbered, length_renumbered, corner_count_renumbered}
use Rattle.drawing.proofs.Sized.{Joins, joins_fit, named, joins_renumbered, joins_spaced, spaced_renumbered, many_bends_renumbered, many_bends_spaced, bends_renumbered, bends_spaced, GridSizes, sizes_renumbered, fields_within, sizes_spaced}
use Rattle.layout.specs.Columns.{bottom_line, top_line}
use Rattle.layout.specs.Points.{bottom_rows, top_rows}
use Rattle.layout.specs.Layout.{layout}
use Rattle.layout.proofs.Step.{ins, outs}
use Rattle.layout.proofs.Drawings.{Complete, complete}
use Rattle.layout.proofs.ExtraRows.{bottom_rows_le, top_rows_le}
use Rattle.layout.proofs.Drawn as laid
use Rattle.hookup.specs.Drawing.{drawing_by, drawing}
use Rattle.hookup.specs.Reading.{ends_by, read_by}

-- the cables' two parts, by line, as a sheet of the station is read
abbrev pub ends_of : Station → List Endpoints
ends_of st = map (ends_by (order st)) st.cables

-- the words of the longest sheet, without a discount and with one
abbrev pub most_words_for : Option ℕ → ℕ
most_words_for None = most_words
most_words_for (Some discount) = most_quoted_words

module _ (st : Station) where
  pub is_renumbered : drawing st ≡ renumbered (order st) (layout (graph_of st))
  unfolding drawing drawing_by graph_of
  is_renumbered = refl

  module _ (H : Orderable st) where
    R : Ranked (graph_of st)
    R = order_ranked st H

    two : 2 ≤ (graph_of st).parts
    two = omega (arith, graph_parts st, H.wired.least)

    most : (graph_of st).parts ≤ most_parts
    most = omega (arith, graph_parts st, H.wired.most)

    -- the counts of every rank are those of a drawing of figures 2 and 3 (2026-03)
    pub every_drawing : (k : ℕ) → k < (graph_of st).parts → Complete k (ins (graph_of st) k) (outs (graph_of st) k)
    every_drawing k h = complete (graph_of st) R k two h

    O : StOrdering st (order st)
    O = order_ordering st H

    -- the order names each rank
    pub names : Names (length (layout (graph_of st)).parts) (order st)
    unfolding rank_in
    names = subst (λ (n : ℕ). Names n (order st)) (sym (laid.parts_count (graph_of st) ∙ graph_parts st)) (record {
      inside = rank_below st H;
      back = part_of_rank st H;
      named = O.inside;
      place = rank_of_part st H;
    })

    pub meets : Meets (drawing st)
    meets = subst Meets (sym is_renumbered) (meets_renumbered (order st) (layout (graph_of st)) names (laid.meets (graph_of st) R))

    pub crossings_are : crossings (layout (graph_of st)) ≡ crossings (drawing st)
    crossings_are = sym (ap crossings is_renumbered ∙ crossings_renumbered (order st) (layout (graph_of st)) names (laid.meets (graph_of st) R))

    length_is : (s : Spacing) → length (sheet_words s (layout (graph_of st))) ≡ length (sheet_words s (drawing st))
    length_is s = sym (ap (λ (d : Drawing). length (sheet_words s d)) is_renumbered ∙ length_renumbered (order st) (layout (graph_of st)) s)

    pub quoted_length_is :
        (s : Spacing) (discount : Option ℕ) → length (quoted_words s discount (layout (graph_of st))) ≡ length (quoted_words s discount (drawing st))
    quoted_length_is s discount =
        sym (ap (λ (d : Drawing). length (quoted_words s discount d)) is_renumbered ∙ quoted_renumbered s discount (order st) (layout (graph_of st)))

    -- 'What holds between two cables is shown once for all spacings'
    pub meets_spaced : (s : Spacing) → Increases s → Meets (spaced s (drawing st))
    meets_spaced s I =
        let G : StGraph = graph_of st in
        subst Meets (sym (ap (spaced s) is_renumbered ∙ spaced_renumbered s (order st) (layout G) names))
        (meets_renumbered (order st) (spaced s (layout G)) (subst (λ (n : ℕ). Names n (order st)) (sym (parts_spaced s (layout G))) names)
        (laid.meets_spaced G R s I))

    -- the ends that a reader takes are those of the layout, under their names
    ends_at :
        (i : ℕ) → i < length st.cables
        → get_or (ends_of st) i no_endpoints ≡ get_or (map (named (order st)) (tabulate (size (graph_of st)) (laid.ends_of (graph_of st)))) i no_endpoints
    unfolding ends_by
    ends_at i h =
        let g : i < size (graph_of st) = omega (arith, graph_size st) in
        let l : List Endpoints = tabulate (size (graph_of st)) (laid.ends_of (graph_of st)) in
        let e : get_or (ends_of st) i no_endpoints ≡ ends_by (order st) (get_or st.cables i no_cable) = get_d_map (ends_by (order st)) st.cables i no_cable no_endpoints h in
        let f : get_or (map (named (order st)) l) i no_endpoints ≡ named (order st) (get_or l i no_endpoints) = get_d_map (named (order st)) l i no_endpoints no_endpoints (omega (arith, length_tabulate (size (graph_of st)) (laid.ends_of (graph_of st)))) in
        let q : get_or l i no_endpoints ≡ laid.ends_of (graph_of st) i = get_d_tabulate (size (graph_of st)) (laid.ends_of (graph_of st)) i no_endpoints g in
        e ∙ ends_path (sym (lower_part_lem st H i h)) (sym (upper_part_lem st H i h)) ∙ sym (f ∙ ap (named (order st)) q)
      where
        ends_path : {a b c d : ℕ} → a ≡ c → b ≡ d → ◌≡◌ {A = Endpoints} (record { first = a; last = b }) (record { first = c; last = d })
        ends_path e f = λ i. record { first = e i; last = f i }

    ends_are : ends_of st ≡ map (named (order st)) (tabulate (size (graph_of st)) (laid.ends_of (graph_of st)))
    ends_are =
        let l : List Endpoints = tabulate (size (graph_of st)) (laid.ends_of (graph_of st)) in
        let e : length (ends_of st) ≡ length st.cables = length-map st.cables (ends_by (order st)) in
        ext_get_or no_endpoints (ends_of st) (map (named (order st)) l)
        (e ∙ sym (graph_size st) ∙ sym (length_tabulate (size (graph_of st)) (laid.ends_of (graph_of st))) ∙ sym (length-map l (named (order st))))
        (λ i h. ends_at i (omega (arith, e)))

    pub joins : Joins st.parts (ends_of st) (drawing st)
    joins =
        subst (λ (d : Drawing). Joins st.parts (ends_of st) d) (sym is_renumbered)
        (subst (λ (l : List Endpoints). Joins st.parts l (renumbered (order st) (layout (graph_of st)))) (sym ends_are)
        (subst (λ (n : ℕ). Joins n (map (named (order st)) (tabulate (size (graph_of st)) (laid.ends_of (graph_of st)))) (renumbered (order st) (layout (graph_of st)))) (graph_parts st)
        (joins_renumbered (order st) (layout (graph_of st)) (graph_of st).parts _ (laid.joins (graph_of st) R two most))))

    lengths_fit : LengthsFit (cable_lengths (drawing st))
    lengths_fit =
        subst (λ (d : Drawing). LengthsFit (cable_lengths d)) (sym is_renumbered)
        (subst LengthsFit (sym (lengths_renumbered (order st) (layout (graph_of st)) names (laid.meets (graph_of st) R))) (laid.lengths_fit (graph_of st) R two most))

    pub routes_are : length (drawing st).routes ≡ length st.cables
    routes_are = joins.routes_count ∙ length-map st.cables (ends_by (order st))

    -- 'The sheet has .. 2m - 2n + 2 + d + e corners and 3m - n + 3 + d + e words.'
    pub corner_total : corner_count (drawing st).routes + 2 * st.parts ≡ 2 * length st.cables + 2 + bottom_rows (graph_of st) + top_rows (graph_of st)
    corner_total =
        let G : StGraph = graph_of st in
        omega (
          arith,
          ap (λ (d : Drawing). corner_count d.routes) is_renumbered ∙ corner_count_renumbered (order st) (layout G),
          laid.corner_total G R two,
          graph_parts st,
          graph_size st,
        )

    -- and m + 1 lengths (2026-01), in every spacing
    pub all_words : (s : Spacing) → length (sheet_words s (drawing st)) + st.parts ≡ 4 * length st.cables + 4 + bottom_rows (graph_of st) + top_rows (graph_of st)
    all_words s = omega (arith, length_is s, laid.words_count (graph_of st) R two s, graph_parts st, graph_size st)

    pub grid_sizes : GridSizes st.parts (length st.cables) (drawing st)
    grid_sizes =
        let G : StGraph = graph_of st in
        subst (λ (d : Drawing). GridSizes st.parts (length st.cables) d) (sym is_renumbered)
        (sizes_renumbered (order st) (layout G) names (laid.meets G R) st.parts (length st.cables) (laid.parts_count G ∙ graph_parts st) (laid.routes_count G ∙ graph_size st)
        (subst₂ (λ (n m : ℕ). GridSizes n m (layout G)) (graph_parts st) (graph_size st) (laid.sizes G R two most)))

    three : 3 ≤ (graph_of st).parts
    three = omega (arith, graph_parts st, H.wired.least)

    grid_many_bends : ManyBends (length st.cables) (bottom_line (graph_of st)) (top_line (graph_of st)) (drawing st)
    grid_many_bends =
        let G : StGraph = graph_of st in
        let b : ℕ = bottom_line G in
        let t : ℕ = top_line G in
        subst (λ (d : Drawing). ManyBends (length st.cables) b t d) (sym is_renumbered)
        (many_bends_renumbered (order st) (layout G) (length st.cables) b t (laid.routes_count G ∙ graph_size st)
        (subst (λ (m : ℕ). ManyBends m b t (layout G)) (graph_size st) (laid.many_bends G R two most three)))

    -- where the two lowest ranks, and the two highest, are joined once
    grid_bends : EndsOnce (graph_of st) → Bends (length st.cables) (drawing st)
    grid_bends once =
        let G : StGraph = graph_of st in
        subst (λ (d : Drawing). Bends (length st.cables) d) (sym is_renumbered)
        (bends_renumbered (order st) (layout G) (length st.cables) (laid.routes_count G ∙ graph_size st)
        (subst (λ (m : ℕ). Bends m (layout G)) (graph_size st) (laid.bends G R two most three once)))

    -- no line is longer
    length_most : (i : ℕ) → i < length (drawing st).routes → line_length (points_at (drawing st) i) ≤ most_length st.parts
    length_most i h =
        let G : StGraph = graph_of st in
        let g : i < length (layout G).routes = omega (arith, ap (λ (d : Drawing). length d.routes) is_renumbered, routes_renumbered (order st) (layout G)) in
        omega (
          arith,
          ap (λ (d : Drawing). line_length (points_at d i)) is_renumbered ∙ ap line_length (points_renumbered (order st) (layout G) names (laid.meets G R) i g),
          laid.length_most G R two i (omega (arith, laid.routes_count G)),
          graph_parts st,
        )

    few_cables : length (drawing st).routes ≤ most_cables
    few_cables = omega (arith, routes_are, graph_size st, graph_parts st, cables_le (graph_of st) R, H.wired.most)

    small : st.parts ≤ most_parts
    small = H.wired.most

    -- As it is spaced

    module _ (s : Spacing) (P : Spreads s) where
      grows : Increases s
      grows = increases s P

      pub crossings_there : crossings (spaced s (drawing st)) ≡ crossings (drawing st)
      crossings_there = crossings_spaced s grows (drawing st) meets

      pub many_bends : ManyBends (length st.cables) (bottom_line (graph_of st)) (top_line (graph_of st)) (spaced s (drawing st))
      many_bends = many_bends_spaced s (drawing st) (length st.cables) (bottom_line (graph_of st)) (top_line (graph_of st)) routes_are grid_many_bends

      pub bends : EndsOnce (graph_of st) → Bends (length st.cables) (spaced s (drawing st))
      bends once = bends_spaced s (drawing st) (length st.cables) routes_are (grid_bends once)

      -- 14 looks at the head alone
      pub head_alone :
          let d = spaced s (drawing st) in check14 d ≡ cond (too_large (max d.width d.height)) (Some (max d.width d.height)) None
      head_alone =
          head_decides (spaced s (drawing st)) (fields_within s grows (drawing st) meets st.parts (length st.cables) joins.parts_count routes_are grid_sizes)

      -- What the words show, whatever discount is given, where the numbers fit

      module _ (pass : check14 (spaced s (drawing st)) ≡ None) (discount : Option ℕ) where
        fits : DrawingFits st.parts (ends_of st) (spaced s (drawing st))
        fits = joins_fit st.parts (ends_of st) (spaced s (drawing st)) (joins_spaced s st.parts (ends_of st) (drawing st) joins) pass

        -- the spot of a part
        pub spot_fits : (p : ℕ) → p < st.parts → SpotFits (spot_of (spaced s (drawing st)) p)
        unfolding spot_of
        spot_fits p h = fits.parts_fit p (omega (arith, fits.parts_count))

        -- what is read off the sheet is the drawing
        pub reads : read_by (order st) st (quoted_words s discount (drawing st)) ≡ spaced s (drawing st)
        unfolding read_by
        reads = drawing_read s st.parts (ends_of st) (drawing st) fits P meets lengths_fit small few_cables length_most discount

        pub sheet_corners : count is_corner (quoted_words s discount (drawing st)) ≡ corner_count (drawing st).routes
        sheet_corners = quoted_corners s st.parts (ends_of st) (drawing st) fits P meets lengths_fit small few_cables length_most discount

        pub sizes : Sizes s st.parts (length st.cables) (drawing st) (spaced s (drawing st)) (quoted_words s discount (drawing st))
        sizes =
            sizes_spaced s grows (drawing st) meets st.parts (length st.cables) joins.parts_count routes_are grid_sizes _ sheet_corners

        -- the lengths on the sheet
        pub measured :
            Measured s st.parts (length st.cables) (drawing st) (spaced s (drawing st))
            (lengths_in st.parts (length st.cables) (quoted_words s discount (drawing st)))
        measured =
            subst (λ (m : ℕ). Measured s st.parts m (drawing st) (spaced s (drawing st)) (lengths_in st.parts m (quoted_words s discount (drawing st)))) routes_are
            (lengths_read s st.parts (ends_of st) (drawing st) fits P meets lengths_fit small few_cables length_most discount)

        -- and the prices
        pub quote :
            Quoted discount (length st.cables) (lengths_in st.parts (length st.cables) (quoted_words s discount (drawing st)))
            (quote_in st.parts (length st.cables) (quoted_words s discount (drawing st)))
        quote =
            subst
            (λ (m : ℕ).
            Quoted discount m (lengths_in st.parts m (quoted_words s discount (drawing st))) (quote_in st.parts m (quoted_words s discount (drawing st)))) routes_are
            (quote_read s st.parts (ends_of st) (drawing st) fits P meets lengths_fit small few_cables length_most discount)

        pub all_fit : (w : ℕ) → Memᴰ w (quoted_words s discount (drawing st)) → w < 2 ^ 32
        all_fit = quoted_fits s st.parts (ends_of st) (drawing st) fits P meets lengths_fit small few_cables length_most discount

    -- On the grid every number fits

    pub grid_fits : check14 (spaced on_grid (drawing st)) ≡ None
    grid_fits =
        let d : Drawing = spaced on_grid (drawing st) in
        let S = grid_sizes in
        let w : d.width ≡ (drawing st).width = ap (λ (z : Drawing). z.width) (unspaced (drawing st)) in
        let h : d.height ≡ (drawing st).height = ap (λ (z : Drawing). z.height) (unspaced (drawing st)) in
        let b : max d.width d.height ≤ most_field = omega (arith, S.width, S.height, small, few_cables, routes_are) in
        head_alone on_grid (passed_13 on_grid grid_passes) ∙ rw (le-ltb most_field (max d.width d.height) b) refl

    -- four cables at a part at most
    words_most : (s : Spacing) → length (sheet_words s (drawing st)) ≤ most_words
    words_most s =
        omega (arith, all_words s, cables_le (graph_of st) R, bottom_rows_le (graph_of st) R, top_rows_le (graph_of st) R, graph_parts st, graph_size st, H.wired.most)

    pub quoted_most : (s : Spacing) (discount : Option ℕ) → length (quoted_words s discount (drawing st)) ≤ most_words_for discount
    quoted_most s None = omega (arith, quoted_length s None (drawing st), words_most s)
    quoted_most s (Some k) = omega (arith, quoted_length s (Some k) (drawing st), words_most s, few_cables)
