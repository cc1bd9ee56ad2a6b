-- The stages' values in a row: the layout of a list's cables in ranks stands for the drawing of its station. Assumes nothing.
use Rattle.std.specs.Prelude.{Some, None, Option}
use Prim.Native.Nat.{ℕ, ◌+◌, ◌<◌, max}
use native.Mathlib.Omega.{arith}
use mathlib.Core.Path.{◌≡◌, sym, ap, ap₂, ◌∙◌}
use mathlib.Core.Bool.{cond}
use mathlib.Core.List.{List}
use lib.ListN.{length, get_or}
use Rattle.station.specs.Station.{station_of}
use Rattle.checks.specs.Checks.{Clear}
use Rattle.order.specs.Order.{order, rank_in}
use Rattle.order.specs.Checks.{all_checks}
use Rattle.order.specs.Graph.{StGraph}
use Rattle.order.specs.Orientation.{graph_of}
use Rattle.ranking.specs.Ranking.{RankingOf, names_in, Inverse}
use Rattle.ranking.specs.Arrays.{graph_in}
use Rattle.ranking.specs.declared.Ranking.{Ranking}
use Rattle.ranking.specs.declared.graph.Graph.{Graph}
use Rattle.order.proofs.Passed.{list_orderable}
use Rattle.order.proofs.StOrder.{order_ordering}
use Rattle.order.proofs.Ranks.{graph_parts, rank_below, part_of_rank, rank_of_part}
use Rattle.drawing.specs.declared.spacing.Spacing.{Spacing}
use Rattle.drawing.specs.Drawing.{Drawing, crossings, renumbered}
use Rattle.drawing.specs.Spacing.{column_at, row_at, spaced, check13, too_large, check14}
use Rattle.drawing.specs.Sheet.{quoted_words}
use Rattle.drawing.proofs.Spaced.{passed_13}
use Rattle.drawing.proofs.Fields.{width_small, height_small}
use Rattle.layout.specs.Layout.{layout}
use Rattle.hookup.specs.Drawing.{drawing}
use Rattle.measuring.specs.Heads.{head_check}
use Rattle.writer.specs.Values.{Fits}
use Rattle.hookup.proofs.Drawn.{is_renumbered, crossings_are, quoted_length_is, head_alone}

module _ (list : List ℕ) (pass : Clear all_checks list) where
  module _ (g : Graph) (e : graph_in g ≡ graph_of (station_of list)) where
    count : g.parts ≡ (station_of list).parts
    count = ap (λ (G : StGraph). G.parts) e ∙ graph_parts (station_of list)

    pub words_are :
        (s : Spacing) (discount : Option ℕ) → length (quoted_words s discount (layout (graph_in g))) ≡ length (quoted_words s discount (drawing (station_of list)))
    words_are s discount =
        ap (λ (G : StGraph). length (quoted_words s discount (layout G))) e ∙ quoted_length_is (station_of list) (list_orderable list pass) s discount

    -- the head of the layout is that of the drawing, which check 14 looks at
    width_as : (s : Spacing) → (spaced s (layout (graph_in g))).width ≡ (spaced s (drawing (station_of list))).width
    unfolding spaced renumbered
    width_as s =
        ap (λ (G : StGraph). column_at s (layout G).width + s.margin) e
        ∙ sym (ap (λ (d : Drawing). column_at s d.width + s.margin) (is_renumbered (station_of list)))

    height_as : (s : Spacing) → (spaced s (layout (graph_in g))).height ≡ (spaced s (drawing (station_of list))).height
    unfolding spaced renumbered
    height_as s =
        ap (λ (G : StGraph). row_at s (layout G).height + s.margin) e
        ∙ sym (ap (λ (d : Drawing). row_at s d.height + s.margin) (is_renumbered (station_of list)))

    module _ (s : Spacing) (good : check13 s ≡ None) where
      pub fourteen_is : head_check (spaced s (layout (graph_in g))) ≡ check14 (spaced s (drawing (station_of list)))
      unfolding head_check
      fourteen_is =
          ap₂ (λ (w h : ℕ). cond (too_large (max w h)) (Some (max w h)) None) (width_as s) (height_as s)
          ∙ sym (head_alone (station_of list) (list_orderable list pass) s (passed_13 s good))

      -- a sheet that passed it can be written
      pub writable : check14 (spaced s (drawing (station_of list))) ≡ None → Fits s (layout (graph_in g))
      writable none =
          let d : Drawing = spaced s (drawing (station_of list)) in
          record {
            spacing = good;
            width = omega (arith, width_as s, width_small d none);
            height = omega (arith, height_as s, height_small d none);
          }

    pub crossings_counted : crossings (layout (graph_in g)) ≡ crossings (drawing (station_of list))
    crossings_counted = ap (λ (G : StGraph). crossings (layout G)) e ∙ crossings_are (station_of list) (list_orderable list pass)

    module _ {r : Ranking} (K : RankingOf (station_of list) r) where
      names_are : names_in g.parts r ≡ order (station_of list)
      names_are = ap (λ (n : ℕ). names_in n r) count ∙ K.part

      pub inverse : Inverse g.parts r
      inverse = record {
        below = λ p h.
            let b : p < (station_of list).parts = omega (arith, count) in
            omega (arith, K.rank p b, rank_below (station_of list) (list_orderable list pass) p b, count);
        rank = λ p h. K.rank p (omega (arith, count)) ∙ ap (λ (l : List ℕ). rank_in l p) (sym names_are);
        part = λ p h. ap (λ (l : List ℕ). get_or l (rank_in l p) 0) names_are ∙ part_of_rank (station_of list) (list_orderable list pass) p (omega (arith, count));
        named = λ k h.
            let b = (order_ordering (station_of list) (list_orderable list pass)).inside k (omega (arith, count)) in
            omega (arith, ap (λ (l : List ℕ). get_or l k 0) names_are, b, count);
        place = λ k h.
            ap (λ (l : List ℕ). rank_in l (get_or l k 0)) names_are ∙ rank_of_part (station_of list) (list_orderable list pass) k (omega (arith, count));
      }

      pub sheet_is :
          (s : Spacing) (discount : Option ℕ)
          → quoted_words s discount (renumbered (names_in g.parts r) (layout (graph_in g))) ≡ quoted_words s discount (drawing (station_of list))
      sheet_is s discount =
          ap₂ (λ (l : List ℕ) (G : StGraph). quoted_words s discount (renumbered l (layout G))) names_are e
          ∙ sym (ap (λ (d : Drawing). quoted_words s discount d) (is_renumbered (station_of list)))
