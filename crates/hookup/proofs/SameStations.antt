-- Request 2026-13: lists of one station have drawings with the same width and height, every part on the same spot, the same routes, each as
-- often, and equally many crossings. Assumes nothing.
use Prim.Native.Nat.{ℕ, ◌<◌, min, max}
use native.Mathlib.Omega.{arith}
use native.Mathlib.Decide.{dec_lt}
use mathlib.Core.Path.{◌≡◌, sym, ap, ap₂, ◌∙◌}
use mathlib.Core.Logic.{inl, inr}
use mathlib.Core.Bool.{Bool, ◌&&◌}
use mathlib.Core.List.{List}
use lib.ListN.{length, get_or, drop, length-map}
use lib.Dec.{eqb}
use borrow.Author.Tests.{eqb-true, eq-eqb}
use Rattle.lists.specs.Select.{range, tabulate, count, index_of}
use Rattle.lists.proofs.Bools.{and_e, and_i, same_test}
use Rattle.lists.proofs.Maps.{count_map}
use Rattle.lists.proofs.Sums.{count_ext}
use Rattle.lists.proofs.Tally.{count_places}
use Rattle.checks.specs.Checks.{Clear}
use Rattle.station.specs.Station.{Station, no_cable, cable_of, station_of}
use Rattle.order.specs.Checks.{all_checks}
use Rattle.order.specs.Order.{order, rank_in}
use Rattle.order.specs.Graph.{lower, upper}
use Rattle.order.specs.Orientation.{graph_of}
use Rattle.order.proofs.Joins.{within, cable_at}
use Rattle.order.proofs.Bipolar.{Orderable}
use Rattle.order.proofs.Ranks.{order_ranked, graph_parts, graph_size, lower_is, upper_is, part_of_rank, rank_of_part}
use Rattle.order.proofs.Passed.{list_orderable}
use Rattle.canonical.specs.Canonical.{canonical}
use Rattle.canonical.specs.Multiplicity.{between, multiplicity, SameStation}
use Rattle.canonical.proofs.Turned.{Pair, pair_e, pair_i}
use Rattle.canonical.proofs.Cables.{length_cables}
use Rattle.canonical.proofs.Canonical.{canonical_cables_lem, canonical_same}
use Rattle.canonical.proofs.Orders.{same_order}
use Rattle.geometry.specs.Spots.{Spot, origin}
use Rattle.drawing.specs.Drawing.{Route, Drawing, spot_of, renumbered}
use Rattle.drawing.specs.Alike.{SameDrawing}
use Rattle.layout.specs.Layout.{layout}
use Rattle.layout.proofs.Relabelled.{cables_between, SameCables, same_layout}
use Rattle.hookup.specs.Drawing.{drawing_by, drawing}
use Rattle.hookup.proofs.Drawn.{crossings_are}

-- two ranks whose lower is a and whose upper is b
ranks_pair : (r s a b : ℕ) → min r s ≡ a → max r s ≡ b → Pair r s a b
ranks_pair r s a b e f = go (dec_lt r s)
  where
    go : Dec (r < s) → Pair r s a b
    go (yes h) = inl (omega arith)
    go (no h) = inr (omega arith)

pair_ranks : (r s a b : ℕ) → a < b → Pair r s a b → (min r s ≡ a) × (max r s ≡ b)
pair_ranks r s a b h (inl e) = (omega arith, omega arith)
pair_ranks r s a b h (inr e) = (omega arith, omega arith)

module _ (st : Station) (H : Orderable st) where
  -- the part of a rank
  abbrev part : ℕ → ℕ
  part k = get_or (order st) k 0

  abbrev rank : ℕ → ℕ
  rank p = rank_in (order st) p

  rank_is : (p k : ℕ) → k < st.parts → p ≡ part k → rank p ≡ k
  rank_is p k h e = ap rank e ∙ rank_of_part st H k h

  part_is : (p k : ℕ) → p < st.parts → rank p ≡ k → p ≡ part k
  part_is p k h e = sym (part_of_rank st H p h) ∙ ap part e

  pair_parts : (p q a b : ℕ) → p < st.parts → q < st.parts → Pair (rank p) (rank q) a b → Pair p q (part a) (part b)
  pair_parts p q a b h g (inl e) = inl (part_is p a h e.0, part_is q b g e.1)
  pair_parts p q a b h g (inr e) = inr (part_is p b h e.0, part_is q a g e.1)

  pair_back : (p q a b : ℕ) → a < st.parts → b < st.parts → Pair p q (part a) (part b) → Pair (rank p) (rank q) a b
  pair_back p q a b h g (inl e) = inl (rank_is p a h e.0, rank_is q b g e.1)
  pair_back p q a b h g (inr e) = inr (rank_is p b g e.0, rank_is q a h e.1)

  module _ (a b : ℕ) (h : a < b) (g : b < st.parts) where
    -- a line goes from rank a to rank b exactly if its cable joins their parts
    line_between : (i : ℕ) → i < length st.cables
        → (eqb (lower (graph_of st) i) a && eqb (upper (graph_of st) i) b) ≡ between (part a) (part b) (cable_at st.cables i)
    unfolding between
    line_between i l =
        same_test (eqb (lower (graph_of st) i) a && eqb (upper (graph_of st) i) b) _
        (λ t.
        let u = and_e (eqb (lower (graph_of st) i) a) (eqb (upper (graph_of st) i) b) t in
        pair_i p q (part a) (part b)
        (pair_parts p q a b w.0 w.1
        (ranks_pair (rank p) (rank q) a b (sym (lower_is st i l) ∙ eqb-true _ a u.0) (sym (upper_is st i l) ∙ eqb-true _ b u.1))))
        (λ t.
        let u = pair_ranks (rank p) (rank q) a b h (pair_back p q a b (omega arith) g (pair_e p q (part a) (part b) t)) in
        and_i _ _ (eq-eqb _ a (lower_is st i l ∙ u.0)) (eq-eqb _ b (upper_is st i l ∙ u.1)))
      where
        p : ℕ
        p = (cable_at st.cables i).one

        q : ℕ
        q = (cable_at st.cables i).other

        w : (p < st.parts) × (q < st.parts)
        w = within H.wired i l

    -- so that as many cables go from rank a to rank b as join their parts
    cables_between_lem : cables_between (graph_of st) a b ≡ multiplicity st.cables (part a) (part b)
    unfolding cables_between multiplicity
    cables_between_lem =
        ap (λ (m : ℕ). count (λ i. eqb (lower (graph_of st) i) a && eqb (upper (graph_of st) i) b) (range m)) (graph_size st)
        ∙ count_ext _ (λ i. between (part a) (part b) (cable_at st.cables i)) (length st.cables) line_between
        ∙ sym (count_places (between (part a) (part b)) st.cables no_cable)

-- the same cables in ranks
same_cables :
    (st su : Station) → Orderable st → Orderable su → SameStation st su → length st.cables ≡ length su.cables → order st ≡ order su
    → SameCables (graph_of st) (graph_of su)
same_cables st su H K S m o = record {
  parts = graph_parts st ∙ S.parts ∙ sym (graph_parts su);
  size = graph_size st ∙ m ∙ sym (graph_size su);
  between = λ a b h g.
      cables_between_lem st H a b h (omega (arith, graph_parts st)) ∙ S.cables (get_or (order st) a 0) (get_or (order st) b 0)
      ∙ ap (λ (l : List ℕ). multiplicity su.cables (get_or l a 0) (get_or l b 0)) o
      ∙ sym (cables_between_lem su K a b h (omega (arith, graph_parts st, S.parts)));
}

-- drawings alike, and so under the same numbers of the parts: the spots, and each route
module _ (l k : List ℕ) (d e : Drawing) (same : l ≡ k) (S : SameDrawing d e) where
  spots_renumbered : (renumbered l d).parts ≡ (renumbered k e).parts
  unfolding renumbered spot_of
  spots_renumbered =
      ap₂ (λ (names : List ℕ) (spots : List Spot). tabulate (length spots) (λ p. get_or spots (index_of p names) origin)) same S.parts

  routes_counted : (names : List ℕ) (p : Route → Bool) → count p (renumbered names d).routes ≡ count p (renumbered names e).routes
  unfolding renumbered
  routes_counted names p = count_map p _ d.routes ∙ S.routes _ ∙ sym (count_map p _ e.routes)

  routes_alike : (p : Route → Bool) → count p (renumbered l d).routes ≡ count p (renumbered k e).routes
  routes_alike p = routes_counted l p ∙ ap (λ (names : List ℕ). count p (renumbered names e).routes) same

module _ (st su : Station) (H : Orderable st) (K : Orderable su) (S : SameStation st su) (m : length st.cables ≡ length su.cables)
    (o : order st ≡ order su) where
  laid : SameDrawing (layout (graph_of st)) (layout (graph_of su))
  laid = same_layout (graph_of st) (graph_of su) (order_ranked st H) (order_ranked su K) (same_cables st su H K S m o)

  stations_drawn : SameDrawing (drawing st) (drawing su)
  unfolding renumbered drawing drawing_by graph_of
  stations_drawn = record {
    width = laid.width;
    height = laid.height;
    parts = spots_renumbered (order st) (order su) (layout (graph_of st)) (layout (graph_of su)) o laid;
    routes = routes_alike (order st) (order su) (layout (graph_of st)) (layout (graph_of su)) o laid;
    crossings = sym (crossings_are st H) ∙ laid.crossings ∙ crossings_are su K;
  }

-- as many cables
lines_same : (l k : List ℕ) → canonical l ≡ canonical k → length (station_of l).cables ≡ length (station_of k).cables
unfolding station_of
lines_same l k same =
    length-map (drop 2 l) cable_of ∙ sym (length_cables (drop 2 l)) ∙ ap length (sym (canonical_cables_lem l) ∙ ap (drop 2) same ∙ canonical_cables_lem k)
    ∙ length_cables (drop 2 k) ∙ sym (length-map (drop 2 k) cable_of)

-- lists that pass and have one canonical form: the sequence of the cables and which way round they stand change nothing of the sizes, the
-- spots, the routes and the count of crossings
pub same_drawing :
    (l k : List ℕ) → Clear all_checks l → Clear all_checks k → canonical l ≡ canonical k → SameDrawing (drawing (station_of l)) (drawing (station_of k))
same_drawing l k C D same =
    stations_drawn (station_of l) (station_of k) (list_orderable l C) (list_orderable k D) (canonical_same l k same) (lines_same l k same)
    (same_order l k C D same)
