-- The ranks of each cable's two parts, filled line by line from the rank of each part. Assumes nothing.
use Prim.Native.Nat.{ℕ, ◌+◌, ◌<◌, ◌≤◌, min, max}
use native.Mathlib.Omega.{arith}
use mathlib.Core.Path.{◌≡◌, refl, sym, ap, ap₂, subst, ◌∙◌}
use mathlib.Core.List.{List}
use lib.ListN.{length, get_or, take, set, replicate, length-replicate, get_or-map}
use lib.Seq.{ext_get_or, get_or-take, length-take-le}
use Rattle.words.specs.Limits.{most_parts, most_cables}
use Rattle.lists.proofs.Fill.{Filled, filled_none, filled_more}
use Rattle.lists.proofs.Kept.{map_set, map_replicate}
use Rattle.words.specs.declared.Rank.{Rank}
use Rattle.station.specs.Station.{station_of, no_cable}
use Rattle.checks.specs.Checks.{Clear}
use Rattle.ranking.specs.declared.Ranking.{Ranking}
use Rattle.ranking.specs.declared.graph.Span.{Span}
use Rattle.ranking.specs.Spans.{lower_ranks, upper_ranks}
use Rattle.order.specs.Checks.{all_checks}
use Rattle.order.specs.Order.{order, rank_in}
use Rattle.order.specs.Graph.{StGraph, lower, upper}
use Rattle.order.specs.Orientation.{graph_of}
use Rattle.ordering.specs.Numbers.{rank_numbers}
use Rattle.ranking.specs.Ranking.{RankingOf}
use Rattle.order.proofs.Ranks.{graph_parts, graph_size, lower_is, upper_is}
use Rattle.order.proofs.Passed.{list_wired, list_ranked, lines_most}

-- the rank that stands at a place
abbrev pub rank_at : List Rank → ℕ → ℕ
rank_at ranks p = (get_or ranks p (record { 0 = 0 })).0

-- it is the number at the place
pub rank_number : (ranks : List Rank) (p : ℕ) → rank_at ranks p ≡ get_or (rank_numbers ranks) p 0
unfolding rank_numbers
rank_number ranks p = sym (get_or-map (λ (k : Rank). k.0) ranks p (record { 0 = 0 }))

module _ (list : List ℕ) (pass : Clear all_checks list) where
  pub one_below : (i : ℕ) {p : ℕ} → p ≡ (get_or (station_of list).cables i no_cable).one → p < most_parts
  one_below i e = omega (arith, e, (list_wired list pass).one i, (list_wired list pass).most)

  pub other_below : (i : ℕ) {p : ℕ} → p ≡ (get_or (station_of list).cables i no_cable).other → p < most_parts
  other_below i e = omega (arith, e, (list_wired list pass).other i, (list_wired list pass).most)

  module _ {r : Ranking} (R : RankingOf (station_of list) r) (i : ℕ) {p q : ℕ} (h : i < length (station_of list).cables) (ep : p ≡ (get_or (station_of list).cables i no_cable).one) (eq : q ≡ (get_or (station_of list).cables i no_cable).other) where
    one_rank : rank_at r.rank p ≡ rank_in (order (station_of list)) (get_or (station_of list).cables i no_cable).one
    one_rank =
        rank_number r.rank p ∙ R.rank p (omega (arith, ep, (list_wired list pass).one i))
        ∙ ap (rank_in (order (station_of list))) ep

    other_rank : rank_at r.rank q ≡ rank_in (order (station_of list)) (get_or (station_of list).cables i no_cable).other
    other_rank =
        rank_number r.rank q ∙ R.rank q (omega (arith, eq, (list_wired list pass).other i))
        ∙ ap (rank_in (order (station_of list))) eq

    pub lower_line : {k : ℕ} → k ≡ min (rank_at r.rank p) (rank_at r.rank q) → k ≡ lower (graph_of (station_of list)) i
    lower_line e = e ∙ ap₂ min one_rank other_rank ∙ sym (lower_is (station_of list) i h)

    pub upper_line : {k : ℕ} → k ≡ max (rank_at r.rank p) (rank_at r.rank q) → k ≡ upper (graph_of (station_of list)) i
    upper_line e = e ∙ ap₂ max one_rank other_rank ∙ sym (upper_is (station_of list) i h)

-- the numbers of an array as it is made
pub blank : List ℕ
blank = replicate most_cables 0

pub length_blank : length blank ≡ most_cables
unfolding blank
length_blank = length-replicate {A = ℕ} most_cables 0

module _ (f : ℕ → ℕ) where
  pub lower_blank : (s : Span) → s.lower.0 ≡ 0 → Filled f 0 0 blank (lower_ranks (replicate most_cables s))
  unfolding blank lower_ranks
  lower_blank s e =
      subst (Filled f 0 0 (replicate most_cables 0)) (sym (map_replicate (λ (k : Span). k.lower.0) most_cables s ∙ ap (replicate most_cables) e))
      (filled_none f 0 (replicate most_cables 0))

  pub upper_blank : (s : Span) → s.upper.0 ≡ 0 → Filled f 0 0 blank (upper_ranks (replicate most_cables s))
  unfolding blank upper_ranks
  upper_blank s e =
      subst (Filled f 0 0 (replicate most_cables 0)) (sym (map_replicate (λ (k : Span). k.upper.0) most_cables s ∙ ap (replicate most_cables) e))
      (filled_none f 0 (replicate most_cables 0))

  -- a span that is stored is its ranks' numbers among the numbers
  module _ {i : ℕ} (l : List Span) (s : Span) (h : i < length blank) where
    pub lower_filled : s.lower.0 ≡ f i → Filled f 0 i blank (lower_ranks l) → Filled f 0 (i + 1) blank (lower_ranks (set l i s))
    unfolding lower_ranks
    lower_filled e F = rw (map_set (λ (k : Span). k.lower.0) l i s) (filled_more f 0 s.lower.0 h e F)

    pub upper_filled : s.upper.0 ≡ f i → Filled f 0 i blank (upper_ranks l) → Filled f 0 (i + 1) blank (upper_ranks (set l i s))
    unfolding upper_ranks
    upper_filled e F = rw (map_set (λ (k : Span). k.upper.0) l i s) (filled_more f 0 s.upper.0 h e F)

-- as far as a list goes, an array that is filled from it is the list
filled_list : (xs : List ℕ) {i m : ℕ} {l : List ℕ} → length xs ≡ m → m ≤ i → m ≤ most_cables → Filled (λ j. get_or xs j 0) 0 i blank l → take m l ≡ xs
filled_list xs {i} {m} {l} e h b F =
    ext_get_or 0 (take m l) xs (long ∙ sym e) (λ j k. get_or-take m l j 0 (omega (arith, long)) ∙ F.done j (omega (arith, long)))
  where
    long : length (take m l) ≡ m
    long = length-take-le m l (omega (arith, F.same, length_blank))

same_graph : {n : ℕ} {lowers uppers : List ℕ} (g : StGraph) → n ≡ g.parts → lowers ≡ g.lowers → uppers ≡ g.uppers
    → ◌≡◌ {A = StGraph} (record { parts = n; lowers = lowers; uppers = uppers }) g
same_graph g a b c = rw (a, b, c) refl

pub lines_ranked : (list : List ℕ) → Clear all_checks list → {n m i : ℕ} {lowers uppers : List ℕ} → n ≡ (station_of list).parts → m ≡ length (station_of list).cables
    → m ≤ i
    → Filled (lower (graph_of (station_of list))) 0 i blank lowers → Filled (upper (graph_of (station_of list))) 0 i blank uppers
    → ◌≡◌ {A = StGraph} (record { parts = n; lowers = take m lowers; uppers = take m uppers }) (graph_of (station_of list))
lines_ranked list pass {n} {m} en em h L U =
    same_graph (graph_of (station_of list)) (en ∙ sym (graph_parts (station_of list)))
    (filled_list (graph_of (station_of list)).lowers size h most L)
    (filled_list (graph_of (station_of list)).uppers ((list_ranked list pass).lines ∙ size) h most U)
  where
    size : length (graph_of (station_of list)).lowers ≡ m
    size = graph_size (station_of list) ∙ sym em

    most : m ≤ most_cables
    most = omega (arith, em, lines_most list pass)
