-- What the values of a layout say of its drawing as it is spaced and numbered by part, and of its lengths and prices. Assumes nothing.
use Prim.Native.Nat.{ℕ, ◌+◌, ◌*◌, ◌<◌, ◌≤◌}
use native.Mathlib.Omega.{arith}
use mathlib.Core.Path.{◌≡◌, sym, ap, subst, ◌∙◌}
use mathlib.Core.List.{List, map}
use lib.ListN.{length, get_or}
use Rattle.lists.proofs.Sums.{sum_le}
use Rattle.prices.specs.Quote.{cable_price}
use Rattle.prices.specs.Values.{longest}
use Rattle.prices.proofs.Quotes.{Covered}
use Rattle.ranking.specs.declared.Ranking.{Ranking}
use Rattle.order.specs.Graph.{StGraph}
use Rattle.order.specs.RankedGraphs.{Ranked}
use Rattle.ranking.specs.Arrays.{graph_in}
use Rattle.order.specs.Order.{rank_in}
use Rattle.ranking.specs.Ranking.{names_in, Inverse}
use Rattle.ranking.proofs.LineRanks.{rank_at, rank_number}
use Rattle.words.specs.Limits.{most_field}
use Rattle.drawing.specs.declared.spacing.Spacing.{Spacing}
use Rattle.drawing.specs.Drawing.{Route, Drawing, spot_of, route_at}
use Rattle.drawing.specs.Spacing.{column_at, row_at, spaced_spot, spaced}
use Rattle.drawing.specs.Lengths.{line_length, cable_lengths}
use Rattle.drawing.specs.Sheet.{route_words, lengths_section}
use Rattle.drawing.proofs.LengthWords.{length_words_length}
use Rattle.lists.specs.Select.{sum}
use Rattle.prices.specs.Quote.{cable_prices}
use Rattle.prices.specs.Values.{most_price}
use Rattle.prices.proofs.Quotes.{price_most, prices_count, price_at}
use Rattle.writer.proofs.Totals.{sum_bound}
use Rattle.drawing.proofs.Lengths.{lengths_count, length_at}
use Rattle.drawing.proofs.Spaced.{Increases, passed_13, increases, parts_spaced, spot_spaced, corners_spaced}
use Rattle.drawing.proofs.Renumbered.{Names, parts_renumbered, spot_renumbered}
use Rattle.placement.specs.declared.Layout.{Layout}
use Rattle.layout.specs.Points.{Course, points_of, corners_of}
use Rattle.layout.specs.Courses.{spaced_course, CourseFits}
use Rattle.placement.specs.Laid.{course_in}
use Rattle.placement.specs.Arrays.{IsLayout, layout_in}
use Rattle.layout.proofs.SpacedCourses.{corners_of_spaced}
use Rattle.layout.proofs.Drawn.{route_at_lem, length_most, rank_column, rank_row, column_fits, row_fits, course_fits}
use Rattle.placement.proofs.Layouts.{is_layout, course_at, column_at_lem, inside, part_count, route_count, length_small, length_is}
use Rattle.writer.specs.Values.{numbered_in, Fits}
use Rattle.writer.proofs.Sections.{length_before}

-- the run lengths of a layout
abbrev pub runs : Layout → List ℕ
runs l = cable_lengths (layout_in l)

-- a spacing that passed check 13
spacing_increases : (s : Spacing) {d : Drawing} → Fits s d → Increases s
spacing_increases s F = increases s (passed_13 s F.spacing)

module _ (l : Layout) where
  L : IsLayout l
  L = is_layout l

  abbrev G : StGraph
  G = graph_in l.graph

  ranked : Ranked G
  ranked = L.fits.ranked

  -- a part's spot fits as it is spaced
  pub spot_small :
      (s : Spacing) → Fits s (layout_in l) → (k : ℕ) → k < l.graph.parts
      → (column_at s (get_or l.columns.parts k 0) ≤ most_field) × (row_at s (l.bottom_rows + k) ≤ most_field)
  spot_small s F k h =
      let I = spacing_increases s F in
      let x : get_or l.columns.parts k 0 ≤ (layout_in l).width = omega (arith, rank_column G ranked L.fits.least k h, column_at_lem l k h) in
      let y : l.bottom_rows + k ≤ (layout_in l).height = omega (arith, rank_row G ranked L.fits.least k h, L.bottom) in (
        omega (arith, column_fits G ranked L.fits.least s I F.width F.height _ x),
        omega (arith, row_fits G ranked L.fits.least s I F.width F.height _ y),
      )

  -- as it is spaced
  module _ (s : Spacing) (F : Fits s (layout_in l)) where
    pub course_small : (i : ℕ) → i < l.graph.cables → CourseFits (spaced_course s (course_in (course_at l i)))
    course_small i h =
        subst (λ (c : Course). CourseFits (spaced_course s c)) (sym (L.courses i h))
        (course_fits G ranked L.fits.least s (spacing_increases s F) F.width F.height i (inside l i h))

    pub route_is :
        (line i : ℕ) → i < l.graph.cables
        → route_words line (corners_of (spaced_course s (course_in (course_at l i)))) ≡ route_words line (route_at (spaced s (layout_in l)) i).corners
    route_is line i h =
        ap (route_words line)
        (corners_of_spaced s (spacing_increases s F) (course_in (course_at l i))
        ∙ ap (map (spaced_spot s)) (ap corners_of (L.courses i h) ∙ sym (ap (λ (r : Route). r.corners) (route_at_lem G i (inside l i h))))
        ∙ sym (corners_spaced s (layout_in l) i (omega (arith, route_count l))))

  pub lengths_small : (k : ℕ) → k ≤ l.graph.cables → length_before (layout_in l) k ≤ k * most_field
  lengths_small k h = sum_le _ k most_field (λ i g. let f : i < l.graph.cables = omega arith in omega (arith, length_is l i f, (length_small l i f).length))

  -- Prices

  -- every run is covered
  pub run_covered : (i : ℕ) → i < l.graph.cables → line_length (points_of (course_in (course_at l i))) ≤ longest
  run_covered i h = omega (arith, length_is l i h, length_most G ranked L.fits.least i (inside l i h), L.fits.most)

  pub run_count : length (cable_lengths (layout_in l)) ≡ l.graph.cables
  run_count = lengths_count (layout_in l) ∙ route_count l

  pub run_is : (i : ℕ) → i < l.graph.cables → line_length (points_of (course_in (course_at l i))) ≡ get_or (cable_lengths (layout_in l)) i 0
  run_is i h = length_is l i h ∙ sym (length_at (layout_in l) i (omega (arith, route_count l)))

  -- of the lengths and of the bill
  pub runs_small : sum (runs l) ≤ l.graph.cables * most_field
  unfolding cable_lengths
  runs_small = omega (arith, ap (length_before (layout_in l)) (route_count l), lengths_small l.graph.cables (omega arith))

  pub run_small : (i : ℕ) → i < l.graph.cables → get_or (runs l) i 0 ≤ most_field
  run_small i h = omega (arith, run_is i h, (length_small l i h).length)

  pub section_count : length (lengths_section (layout_in l)) ≡ l.graph.cables + 1
  unfolding lengths_section
  section_count = length_words_length (runs l) ∙ ap (λ (k : ℕ). k + 1) run_count

  pub runs_covered : Covered (cable_lengths (layout_in l))
  runs_covered i h = let g : i < l.graph.cables = omega (arith, run_count) in omega (arith, run_is i g, run_covered i g)

  pub price_small : (discount i : ℕ) → i < l.graph.cables → get_or (cable_prices discount (runs l)) i 0 ≤ most_price
  price_small discount i h =
      let g : i < length (runs l) = omega (arith, run_count) in
      omega (arith, price_at discount (runs l) i g, price_most discount _ (runs_covered i g))

  pub prices_small : (discount : ℕ) → sum (cable_prices discount (runs l)) ≤ l.graph.cables * most_price
  prices_small discount =
      omega (
        arith,
        sum_bound (cable_prices discount (runs l)) most_price
            (λ i h. price_small discount i (omega (arith, prices_count discount (runs l), run_count))),
        prices_count discount (runs l),
        run_count,
      )

  pub price_is :
      (discount i : ℕ) → i < l.graph.cables
      → cable_price discount (line_length (points_of (course_in (course_at l i)))) ≡ cable_price discount (get_or (cable_lengths (layout_in l)) i 0)
  price_is discount i h = ap (cable_price discount) (run_is i h)

  -- Parts by number

  module _ (r : Ranking) where
    on_grid_lem : length (numbered_in r l).parts ≡ l.graph.parts
    on_grid_lem = parts_renumbered (names_in l.graph.parts r) (layout_in l) ∙ part_count l

    pub number_count : (s : Spacing) → length (spaced s (numbered_in r l)).parts ≡ l.graph.parts
    number_count s = parts_spaced s (numbered_in r l) ∙ on_grid_lem

    module _ (I : Inverse l.graph.parts r) where
      -- no two parts have one name
      pub names : Names (length (layout_in l).parts) (names_in l.graph.parts r)
      unfolding rank_in
      names = subst (λ (n : ℕ). Names n (names_in l.graph.parts r)) (sym (part_count l)) (record {
        inside = λ p h. omega (arith, I.rank p h, I.below p h);
        back = I.part;
        named = I.named;
        place = I.place;
      })

      pub rank_below : (p : ℕ) → p < l.graph.parts → rank_at r.rank p < l.graph.parts
      rank_below p h = omega (arith, rank_number r.rank p, I.below p h)

      -- part p stands where its rank does
      pub number_spot :
          (s : Spacing) (p : ℕ) → p < l.graph.parts → spaced_spot s (spot_of (layout_in l) (rank_at r.rank p)) ≡ spot_of (spaced s (numbered_in r l)) p
      unfolding rank_in
      number_spot s p h =
          ap (λ (k : ℕ). spaced_spot s (spot_of (layout_in l) k)) (rank_number r.rank p ∙ I.rank p h)
          ∙ sym (ap (spaced_spot s) (spot_renumbered (names_in l.graph.parts r) (layout_in l) p (omega (arith, part_count l))))
          ∙ sym (spot_spaced s (numbered_in r l) p (omega (arith, on_grid_lem)))
