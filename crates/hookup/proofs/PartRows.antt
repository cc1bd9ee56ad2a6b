-- The rows of the parts on a sheet, and the parts by rising row: the order, in every spacing. Assumes nothing.
use Rattle.std.specs.Prelude.{None, Option}
use Prim.Native.Nat.{ℕ, suc, ◌+◌, ◌-◌, ◌<◌, ◌≤◌, min, max}
use native.Mathlib.Omega.{arith}
use native.Mathlib.Decide.{ℕ_discrete}
use mathlib.Core.Path.{◌≡◌, sym, ap, subst, ◌∙◌}
use mathlib.Core.Logic.{◌⊎◌, inl, inr}
use mathlib.Core.Bool.{true, ◌||◌}
use mathlib.Core.List.{◌++◌, map, Memᴰ}
use lib.Dec.{eqb}
use borrow.Author.Tests.{eqb-true, eq-eqb}
use lib.ListN.{length, get_or, length-map, length-append, get_or-append}
use Rattle.lists.specs.Select.{range, count, sort_by, one_if}
use Rattle.lists.proofs.Select.{get_d_map, length_filter}
use Rattle.lists.proofs.Bools.{or_e, or_left, or_right, same_test}
use Rattle.lists.proofs.Sums.{count_ext}
use Rattle.lists.proofs.Tally.{count_places}
use Rattle.lists.proofs.Places.{mem-place}
use Rattle.lists.proofs.Rising.{strictly_of_places, sort_by_strictly}
use Rattle.words.specs.Words.{second_of, part}
use Rattle.words.proofs.Words.{fields_apart}
use Rattle.station.specs.Station.{Cable, Station, joins as joined, degree, no_cable}
use Rattle.order.specs.Order.{order, rank_in}
use Rattle.order.specs.StOrder.{StOrdering}
use Rattle.order.proofs.Joins.{within}
use Rattle.order.proofs.Bipolar.{Orderable}
use Rattle.order.proofs.StOrder.{order_ordering, order_mem}
use Rattle.order.proofs.Ranks.{graph_parts, graph_size, lower_is, upper_is, rank_below, rank_of_part, rank_one, rank_source, rank_analyser}
use Rattle.order.specs.Graph.{size, lower, upper, lines_at}
use Rattle.order.specs.Orientation.{graph_of}
use Rattle.drawing.specs.declared.spacing.Spacing.{Spacing}
use Rattle.geometry.specs.Spots.{Spot, origin}
use Rattle.drawing.specs.Drawing.{Drawing, spot_of, renumbered}
use Rattle.drawing.specs.Spacing.{row_at, spaced_spot, spaced, check14}
use Rattle.drawing.specs.Sheet.{part_spot_word, head_section, parts_section, cables_section, lengths_section, quote_section, drawing_words, sheet_words, quoted_words}
use Rattle.drawing.proofs.Spaced.{Spreads, increases, parts_spaced, spot_spaced}
use Rattle.drawing.proofs.WordCounts.{drawing_length}
use Rattle.drawing.specs.Reading.{parts_by_row}
use Rattle.drawing.proofs.ReadBack.{SpotFits}
use Rattle.drawing.proofs.Renumbered.{spot_renumbered}
use Rattle.layout.specs.Points.{bottom_rows, top_rows, row, part_spot, rank_spot}
use Rattle.layout.specs.Layout.{drawn_in, layout}
use Rattle.layout.proofs.Drawn as laid
use Rattle.hookup.specs.Drawing.{drawing}
use Rattle.hookup.specs.Demand.{rows_below, rows_above, row_of}
use Rattle.hookup.proofs.Drawn.{is_renumbered, joins, spot_fits}

-- the word of part p is word 1 + p, whatever lies behind the drawing
part_word_lem : (d : Drawing) (p : ℕ) → p < length d.parts → get_or (drawing_words d) (1 + p) 0 ≡ part_spot_word (spot_of d p)
unfolding drawing_words head_section parts_section spot_of
part_word_lem d p h =
    let q : 1 + p ≡ suc p = omega arith in
    let g : p < length (map part_spot_word d.parts) = omega (arith, length-map d.parts part_spot_word) in
    rw q (get_or-append (map part_spot_word d.parts) (cables_section d) 0 p g ∙ get_d_map part_spot_word d.parts p origin 0 h)

part_word_quoted :
    (s : Spacing) (discount : Option ℕ) (d : Drawing) (p : ℕ) → p < length d.parts
    → get_or (quoted_words s discount d) (1 + p) 0 ≡ part_spot_word (spaced_spot s (spot_of d p))
unfolding quoted_words sheet_words
part_word_quoted s discount d p h =
    let g : p < length (spaced s d).parts = omega (arith, parts_spaced s d) in
    get_or-append (drawing_words (spaced s d) ++ lengths_section d) (quote_section discount d) 0 (1 + p)
    (omega (arith, length-append (drawing_words (spaced s d)) (lengths_section d), drawing_length (spaced s d)))
    ∙ get_or-append (drawing_words (spaced s d)) (lengths_section d) 0 (1 + p) (omega (arith, drawing_length (spaced s d)))
    ∙ part_word_lem (spaced s d) p g ∙ ap part_spot_word (spot_spaced s d p h)

word_row : (s : Spot) → SpotFits s → second_of (part_spot_word s) ≡ s.y
unfolding part_spot_word
word_row s f = (fields_apart part s.x s.y (omega arith) f.x_fits f.y_fits).second_is

module _ (st : Station) (H : Orderable st) where
  part_spot_lem : (p : ℕ) → p < st.parts → spot_of (drawing st) p ≡ rank_spot (graph_of st) (rank_in (order st) p)
  unfolding rank_in
  part_spot_lem p h =
      let g : p < length (layout (graph_of st)).parts = omega (arith, laid.parts_count (graph_of st), graph_parts st) in
      ap (λ (d : Drawing). spot_of d p) (is_renumbered st) ∙ spot_renumbered (order st) (layout (graph_of st)) p g
      ∙ laid.spot_of_lem (graph_of st) (rank_in (order st) p) (omega (arith, rank_below st H p h, graph_parts st))

  -- 'Rank k stands in row d + k.'
  pub part_row : (p : ℕ) → p < st.parts → (spot_of (drawing st) p).y ≡ bottom_rows (graph_of st) + rank_in (order st) p
  unfolding rank_spot part_spot row
  part_row p h = ap (λ (s : Spot). s.y) (part_spot_lem p h)

  O : StOrdering st (order st)
  O = order_ordering st H

  order_inside : (p : ℕ) → Memᴰ p (order st) → p < st.parts
  order_inside p m = let t = mem-place (order st) 0 m in omega (arith, O.inside t.0 (omega (arith, t.1, O.all)), t.2)

  -- On the sheet

  module _ (s : Spacing) (P : Spreads s) (pass : check14 (spaced s (drawing st)) ≡ None) (discount : Option ℕ) where
    word_of_row : (p : ℕ) → p < st.parts → second_of (get_or (quoted_words s discount (drawing st)) (1 + p) 0) ≡ row_at s (bottom_rows (graph_of st) + rank_in (order st) p)
    unfolding spaced_spot
    word_of_row p h =
        let g : p < length (drawing st).parts = omega (arith, (joins st H).parts_count) in
        let e = spot_spaced s (drawing st) p g in
        ap (λ (w : ℕ). second_of w) (part_word_quoted s discount (drawing st) p g)
        ∙ word_row (spaced_spot s (spot_of (drawing st) p)) (subst SpotFits e (spot_fits st H s P pass discount p h))
        ∙ ap (row_at s) (part_row p h)

    -- the row of the part of rank k
    pub rank_row : (k : ℕ) → k < length (order st) → row_of (quoted_words s discount (drawing st)) (get_or (order st) k 0) ≡ row_at s (bottom_rows (graph_of st) + k)
    unfolding row_of
    rank_row k h =
        let g : k < st.parts = omega (arith, O.all) in
        word_of_row (get_or (order st) k 0) (O.inside k g) ∙ ap (λ (r : ℕ). row_at s (bottom_rows (graph_of st) + r)) (rank_of_part st H k g)

    rows_rise : (i j : ℕ) → i < j → j < length (order st) → row_of (quoted_words s discount (drawing st)) (get_or (order st) i 0) < row_of (quoted_words s discount (drawing st)) (get_or (order st) j 0)
    rows_rise i j h g =
        omega (arith, rank_row i (omega arith), rank_row j g, (increases s P).rows (bottom_rows (graph_of st) + i) (bottom_rows (graph_of st) + j) (omega arith))

    pub by_row : sort_by (row_of (quoted_words s discount (drawing st))) (range st.parts) ≡ order st
    by_row =
        sort_by_strictly (row_of (quoted_words s discount (drawing st))) st.parts (order st) (strictly_of_places (row_of (quoted_words s discount (drawing st))) (order st) rows_rise)
        order_inside (order_mem st H)

  -- The rows below s and above t, by their cables

  -- the rank of a cable's one part, and of its other
  abbrev one : ℕ → ℕ
  one i = rank_in (order st) (get_or st.cables i no_cable).one

  abbrev other : ℕ → ℕ
  other i = rank_in (order st) (get_or st.cables i no_cable).other

  -- f gives each cable one of its two ranks, and rank r where one of them is r; p has rank r
  module _ (f : ℕ → ℕ) (r p : ℕ) (inside : p < st.parts) (at : rank_in (order st) p ≡ r)
      (of_two : (i : ℕ) → i < length st.cables → f i ≡ r → (one i ≡ r) ⊎ (other i ≡ r))
      (meets : (i : ℕ) → i < length st.cables → (one i ≡ r) ⊎ (other i ≡ r) → f i ≡ r) where
    -- p alone has rank r
    is : (q : ℕ) → q < st.parts → rank_in (order st) q ≡ r → q ≡ p
    is q l e = rank_one st H q p l inside (e ∙ sym at)

    at_end_lem : (i : ℕ) → i < length st.cables → eqb (f i) r ≡ joined p (get_or st.cables i no_cable)
    unfolding joined
    at_end_lem i h = same_test (eqb (f i) r) _ there back
      where
        c : Cable
        c = get_or st.cables i no_cable

        within_two : (c.one < st.parts) × (c.other < st.parts)
        within_two = within H.wired i h

        there : eqb (f i) r ≡ true → (eqb c.one p || eqb c.other p) ≡ true
        there e = go (of_two i h (eqb-true (f i) r e))
          where
            go : (one i ≡ r) ⊎ (other i ≡ r) → (eqb c.one p || eqb c.other p) ≡ true
            go (inl q) = or_left _ _ (eq-eqb c.one p (is c.one within_two.0 q))
            go (inr q) = or_right (eqb c.one p) _ (eq-eqb c.other p (is c.other within_two.1 q))

        back : (eqb c.one p || eqb c.other p) ≡ true → eqb (f i) r ≡ true
        back e = eq-eqb (f i) r (meets i h (go (or_e (eqb c.one p) (eqb c.other p) e)))
          where
            go : (eqb c.one p ≡ true) ⊎ (eqb c.other p ≡ true) → (one i ≡ r) ⊎ (other i ≡ r)
            go (inl q) = inl (ap (rank_in (order st)) (eqb-true c.one p q) ∙ at)
            go (inr q) = inr (ap (rank_in (order st)) (eqb-true c.other p q) ∙ at)

    end_lines : length (lines_at (size (graph_of st)) f r) ≡ degree st.cables p
    unfolding lines_at degree
    end_lines =
        length_filter (λ i. eqb (f i) r) (range (size (graph_of st)))
        ∙ ap (λ (m : ℕ). count (λ i. eqb (f i) r) (range m)) (graph_size st)
        ∙ count_ext _ _ (length st.cables) at_end_lem
        ∙ sym (count_places (joined p) st.cables no_cable)

  -- the lesser of two ranks is 0 where one of them is, the greater is n - 1 where one of them is
  least : (a b c : ℕ) → c ≡ min a b → c ≡ 0 → (a ≡ 0) ⊎ (b ≡ 0)
  least a b c e f = go (ℕ_discrete a 0)
    where
      go : Dec (a ≡ 0) → (a ≡ 0) ⊎ (b ≡ 0)
      go (yes q) = inl q
      go (no q) = inr (omega arith)

  greatest : (a b c r : ℕ) → c ≡ max a b → c ≡ r → (a ≡ r) ⊎ (b ≡ r)
  greatest a b c r e f = go (ℕ_discrete a r)
    where
      go : Dec (a ≡ r) → (a ≡ r) ⊎ (b ≡ r)
      go (yes q) = inl q
      go (no q) = inr (omega arith)

  least_back : (a b c : ℕ) → c ≡ min a b → (a ≡ 0) ⊎ (b ≡ 0) → c ≡ 0
  least_back a b c e (inl q) = omega arith
  least_back a b c e (inr q) = omega arith

  greatest_back : (a b c r : ℕ) → c ≡ max a b → a ≤ r → b ≤ r → (a ≡ r) ⊎ (b ≡ r) → c ≡ r
  greatest_back a b c r e h g (inl q) = omega arith
  greatest_back a b c r e h g (inr q) = omega arith

  -- all cables of s go out
  pub bottom_rows_lem : bottom_rows (graph_of st) ≡ rows_below st
  unfolding bottom_rows rows_below
  bottom_rows_lem =
      ap (λ (k : ℕ). one_if (eqb k 4))
      (end_lines (lower (graph_of st)) 0 st.source H.wired.source (rank_source st H)
      (λ i h. least (one i) (other i) _ (lower_is st i h)) (λ i h. least_back (one i) (other i) _ (lower_is st i h)))

  -- and all of t come in: 'and e the same for t'
  pub top_rows_lem : top_rows (graph_of st) ≡ rows_above st
  unfolding top_rows rows_above
  top_rows_lem =
      let r : ℕ = (graph_of st).parts - 1 in
      ap (λ (k : ℕ). one_if (eqb k 4))
      (end_lines (upper (graph_of st)) r st.analyser H.wired.analyser (omega (arith, rank_analyser st H, graph_parts st))
      (λ i h. greatest (one i) (other i) _ r (upper_is st i h))
      (λ i h.
      let w = within H.wired i h in
      greatest_back (one i) (other i) _ r (upper_is st i h)
      (omega (arith, rank_below st H _ w.0, graph_parts st)) (omega (arith, rank_below st H _ w.1, graph_parts st))))

  -- 'n - 1 + d + e as height'
  pub height_is : (drawing st).height ≡ st.parts - 1 + rows_below st + rows_above st
  unfolding renumbered layout drawn_in
  height_is =
      omega (arith, ap (λ (d : Drawing). d.height) (is_renumbered st), graph_parts st, bottom_rows_lem, top_rows_lem)

-- the parts by rising row are the parts by rank
pub parts_by_row_lem :
    (st : Station) (H : Orderable st) (s : Spacing) (P : Spreads s) → check14 (spaced s (drawing st)) ≡ None → (discount : Option ℕ)
    → parts_by_row st.parts (quoted_words s discount (drawing st)) ≡ order st
unfolding parts_by_row row_of
parts_by_row_lem st H s P pass discount = by_row st H s P pass discount
