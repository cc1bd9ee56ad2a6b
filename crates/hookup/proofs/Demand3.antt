-- Demand 3, whole, the order of demand 2, and the crossings (2026-02), for the words of the drawing of every list that is not sent back,
-- whatever the caller gave. Assumes nothing.
use Rattle.std.specs.Prelude.{None, Option}
use Prim.Native.Nat.{ℕ, ◌+◌, ◌<◌, ◌≤◌, ◌^◌}
use native.Mathlib.Omega.{arith}
use mathlib.Core.Path.{◌≡◌, refl, sym, ap, ◌∙◌, subst}
use mathlib.Core.Logic.{inl, inr, ⊎_elim}
use mathlib.Core.List.{List, Memᴰ}
use lib.ListN.{length, get_or, length-map}
use Rattle.lists.proofs.Select.{get_d_map}
use Rattle.station.specs.Station.{Station, station_of, no_cable}
use Rattle.checks.specs.Checks.{Clear}
use Rattle.order.specs.Order.{order}
use Rattle.order.specs.Orientation.{lower_part, upper_part, graph_of}
use Rattle.order.specs.StOrder.{Smallest}
use Rattle.order.proofs.Bipolar.{Orderable}
use Rattle.order.proofs.StOrder.{order_ordering, order_smallest}
use Rattle.order.proofs.Orientation.{parts_joined}
use Rattle.order.proofs.Passed.{list_orderable}
use Rattle.drawing.specs.Drawing.{Drawing, route_at, Meets, crossings}
use Rattle.drawing.specs.Spacing.{row_at, spaced, check13, check14}
use Rattle.drawing.specs.Sheet.{quoted_words}
use Rattle.drawing.specs.Counts.{quote_count}
use Rattle.drawing.proofs.Quoted.{quoted_length}
use Rattle.drawing.specs.declared.spacing.Spacing.{Spacing}
use Rattle.drawing.specs.Reading.{Endpoints, no_endpoints, parts_by_row, lengths_in}
use Rattle.drawing.specs.Sizes.{Sizes, Exactly, ManyBends, Bends}
use Rattle.drawing.specs.Measured.{Measured}
use Rattle.layout.specs.Columns.{bottom_line, top_line}
use Rattle.drawing.proofs.Spaced.{Spreads, passed_13, increases, spaced_one}
use Rattle.hookup.specs.declared.Options.{Options}
use Rattle.hookup.specs.Checks.{call_checks}
use Rattle.hookup.specs.Drawing.{drawing}
use Rattle.hookup.specs.Reading.{ends_by, drawing_of}
use Rattle.hookup.specs.Demand.{Form, rows_below, rows_above, Demand3, row_of, Ordered, Crossed}
use Rattle.hookup.proofs.CallChecks.{checked_given, list_clear, spacing_clear, drawing_clear}
use Rattle.hookup.proofs.Drawn.{ends_of, most_words_for, joins, routes_are, corner_total, all_words, grid_sizes, meets_spaced, crossings_there, reads, sheet_corners, sizes, many_bends, bends, measured, quote, all_fit, quoted_most}
use Rattle.hookup.proofs.PartRows.{parts_by_row_lem, rank_row, bottom_rows_lem, top_rows_lem, height_is}

module _ (st : Station) (H : Orderable st) where
  ends_at : (i : ℕ) → i < length st.cables → get_or (ends_of st) i no_endpoints ≡ ends_by (order st) (get_or st.cables i no_cable)
  ends_at i h = get_d_map (ends_by (order st)) st.cables i no_cable no_endpoints h

  in_ends : (i : ℕ) → i < length st.cables → i < length (ends_of st)
  in_ends i h = omega (arith, length-map st.cables (ends_by (order st)))

  first_at : (i : ℕ) → i < length st.cables → (route_at (drawing st) i).first ≡ lower_part (order st) (get_or st.cables i no_cable)
  unfolding ends_by
  first_at i h = ((joins st H).routes i (in_ends i h)).first_is ∙ ap (λ (e : Endpoints). e.first) (ends_at i h)

  last_at : (i : ℕ) → i < length st.cables → (route_at (drawing st) i).last ≡ upper_part (order st) (get_or st.cables i no_cable)
  unfolding ends_by
  last_at i h = ((joins st H).routes i (in_ends i h)).last_is ∙ ap (λ (e : Endpoints). e.last) (ends_at i h)

  form : (options : Options) → Form options st (drawing st) (quoted_words options.spacing options.discount (drawing st))
  form options = record {
    words = refl;
    parts = (joins st H).parts_count;
    cables = (joins st H).routes_count ∙ length-map st.cables (ends_by (order st));
    joins = λ i h.
        ⊎_elim
        (λ e. inl (first_at i h ∙ e.0, last_at i h ∙ e.1))
        (λ e. inr (first_at i h ∙ e.0, last_at i h ∙ e.1))
        (parts_joined (order st) (get_or st.cables i no_cable));
  }

  -- the sizes as document 01 has them
  exact : (s : Spacing) (P : Spreads s) → check14 (spaced s (drawing st)) ≡ None → (discount : Option ℕ)
      → Exactly discount st.parts (length st.cables) (rows_below st) (rows_above st) (drawing st) (quoted_words s discount (drawing st))
  exact s P pass discount = record {
    width = (grid_sizes st H).width;
    height = height_is st H;
    corners = omega (arith, sheet_corners st H s P pass discount, corner_total st H, bottom_rows_lem st H, top_rows_lem st H);
    words = omega (arith, quoted_length s discount (drawing st), ap (quote_count discount) (routes_are st H), all_words st H s, bottom_rows_lem st H, top_rows_lem st H);
  }

-- the words of a list's sheet
abbrev pub sheet_of : Options → List ℕ → List ℕ
sheet_of options list = quoted_words options.spacing options.discount (drawing (station_of list))

module _ (options : Options) (list : List ℕ) (pass : Clear (call_checks options) list) where
  orderable : Orderable (station_of list)
  orderable = list_orderable list (list_clear options list (checked_given options list pass))

  spreads : Spreads options.spacing
  spreads = passed_13 options.spacing (spacing_clear options list (checked_given options list pass))

  -- what is read off the sheet is the drawing, spaced
  read_off : drawing_of list (sheet_of options list) ≡ spaced options.spacing (drawing (station_of list))
  unfolding drawing_of
  read_off = reads (station_of list) orderable options.spacing spreads (drawing_clear options list pass) options.discount

  pub demand3 : Demand3 options list (sheet_of options list)
  demand3 =
      let st : Station = station_of list in
      let sheet : List ℕ = sheet_of options list in
      let s = options.spacing in
      let fit = drawing_clear options list pass in
      record {
        grid = drawing st;
        spacing = read_off;
        form = form st orderable options;
        meetings = subst (λ (d : Drawing). Meets d) (sym read_off) (meets_spaced st orderable s (increases s spreads));
        sizes =
            subst (λ (d : Drawing). Sizes s st.parts (length st.cables) (drawing st) d sheet) (sym read_off)
            (sizes st orderable s spreads fit options.discount);
        exactly = exact st orderable s spreads fit options.discount;
        many_bends =
            subst (λ (d : Drawing). ManyBends (length st.cables) (bottom_line (graph_of st)) (top_line (graph_of st)) d) (sym read_off)
            (many_bends st orderable s spreads);
        bends = λ once. subst (λ (d : Drawing). Bends (length st.cables) d) (sym read_off) (bends st orderable s spreads once);
        lengths =
            subst (λ (d : Drawing). Measured s st.parts (length st.cables) (drawing st) d (lengths_in st.parts (length st.cables) sheet)) (sym read_off)
            (measured st orderable s spreads fit options.discount);
        quote = quote st orderable s spreads fit options.discount;
      }

  -- of demand 2: 'The parts stand in the smallest st-ordering between the two named ends'
  pub ordered : Ordered options list (sheet_of options list)
  ordered =
      let st : Station = station_of list in
      let sheet : List ℕ = sheet_of options list in
      let s = options.spacing in
      let fit = drawing_clear options list pass in
      let e : parts_by_row st.parts sheet ≡ order st = parts_by_row_lem st orderable s spreads fit options.discount in
      record {
        smallest = subst (λ (l : List ℕ). Smallest st l) (sym e) (order_smallest st orderable);
        rows = λ k h.
            ap (λ (l : List ℕ). row_of sheet (get_or l k 0)) e
            ∙ rank_row st orderable s spreads fit options.discount k (omega (arith, (order_ordering st orderable).all))
            ∙ ap (λ (d : ℕ). row_at s (d + k)) (bottom_rows_lem st orderable);
      }

  -- 2026-02: the crossings of the drawing are those that its words show
  pub crossed : Crossed list (sheet_of options list) (crossings (drawing (station_of list)))
  crossed = record { pairs = sym (ap crossings read_off ∙ crossings_there (station_of list) orderable options.spacing spreads) }

  -- every word has 32 bits
  pub sheet_fits : (w : ℕ) → Memᴰ w (sheet_of options list) → w < 2 ^ 32
  sheet_fits = all_fit (station_of list) orderable options.spacing spreads (drawing_clear options list pass) options.discount

  -- an output of so many words always suffices
  pub words_most : length (sheet_of options list) ≤ most_words_for options.discount
  words_most = quoted_most (station_of list) orderable options.spacing options.discount

-- the drawing on the grid that demand 3 names is told by the words: no other is spaced so
pub one_grid : (options : Options) (list sheet : List ℕ) → check13 options.spacing ≡ None → (D E : Demand3 options list sheet) → D.grid ≡ E.grid
one_grid options list sheet good D E =
    let s = options.spacing in spaced_one s (increases s (passed_13 s good)) D.grid E.grid (sym D.spacing ∙ E.spacing)
