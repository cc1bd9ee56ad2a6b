-- Every graph that a function is handed is ranked, and its lines and ranks lie within its array. Assumes nothing.
use Prim.Native.Nat.{ℕ, ◌+◌, ◌<◌, ◌≤◌}
use native.Mathlib.Omega.{arith}
use mathlib.Core.Path.{◌≡◌, refl, sym, ap, subst, ◌∙◌}
use mathlib.Core.List.Memᴰ
use mathlib.Core.List.{List, [], ◌∷◌, map, Memᴰ}
use lib.ListN.{length, get_or, take, length-map, get_or-map}
use lib.Seq.{get_or-take}
use lib.Dec.{eqb}
use borrow.Author.Tests.{eqb-true, eq-eqb}
use Rattle.std.specs.List.{take-map}
use Rattle.lists.specs.Select.{range, filter}
use Rattle.lists.proofs.Select.{filter_e, filter_i, range_e, range_i}
use Rattle.words.specs.Limits.{most_parts, most_cables, most_degree}
use Rattle.order.specs.Graph.{StGraph, size, lower, upper, lines_at}
use Rattle.order.specs.RankedGraphs.{Ranked}
use Rattle.ranking.specs.declared.graph.Graph.{Graph}
use Rattle.ranking.specs.declared.graph.Span.{Span}
use Rattle.ranking.specs.Spans.{lower_ranks, upper_ranks, graph_by, IsRanked}
use Rattle.ranking.specs.Arrays.{graph_in, GraphFits}

-- the span that stands at a place
abbrev pub no_span : Span
no_span = record { lower = record { 0 = 0 }; upper = record { 0 = 0 } }

abbrev pub span_at : List Span → ℕ → Span
span_at spans i = get_or spans i no_span

abbrev pub lower_of : Span → ℕ
lower_of s = s.lower.0

abbrev pub upper_of : Span → ℕ
upper_of s = s.upper.0

-- of the first m spans, the ranks of the one at place i
module _ (m : ℕ) (spans : List Span) (i : ℕ) (h : i < m) where
  pub lower_read : (span_at spans i).lower.0 ≡ get_or (take m (lower_ranks spans)) i 0
  unfolding lower_ranks
  lower_read = sym (get_or-take m (lower_ranks spans) i 0 h ∙ get_or-map (λ (s : Span). s.lower.0) spans i _)

  pub upper_read : (span_at spans i).upper.0 ≡ get_or (take m (upper_ranks spans)) i 0
  unfolding upper_ranks
  upper_read = sym (get_or-take m (upper_ranks spans) i 0 h ∙ get_or-map (λ (s : Span). s.upper.0) spans i _)

-- some lines are at a rank exactly where one is
line_at : (m : ℕ) (rank : ℕ → ℕ) (k : ℕ) → 0 < length (lines_at m rank k) → (i : ℕ) × (i < m) × (rank i ≡ k)
unfolding lines_at
line_at m rank k h = go (filter (λ i. eqb (rank i) k) (range m)) refl h
  where
    go : (l : List ℕ) → filter (λ i. eqb (rank i) k) (range m) ≡ l → 0 < length l → (i : ℕ) × (i < m) × (rank i ≡ k)
    go [] e h = absurd (omega arith)
    go (i ∷ l) e h =
        let f = filter_e (λ j. eqb (rank j) k) (range m) (rw e (Memᴰ.head refl)) in
        (i, range_e m f.0, eqb-true (rank i) k f.1)

some_lines : (m : ℕ) (rank : ℕ → ℕ) (k : ℕ) → (i : ℕ) × (i < m) × (rank i ≡ k) → 0 < length (lines_at m rank k)
unfolding lines_at
some_lines m rank k s = go (filter (λ i. eqb (rank i) k) (range m)) (filter_i (λ j. eqb (rank j) k) (range m) (range_i s.0 m s.1) (eq-eqb (rank s.0) k s.2))
  where
    go : (l : List ℕ) → Memᴰ s.0 l → 0 < length l
    go [] h = absurd (Memᴰ.not-nil h)
    go (i ∷ l) h = omega arith

module _ (g : Graph) where
  -- the count of lines
  pub lines_count : g.cables ≡ size (graph_in g)
  lines_count = sym g.is_ranked.lines

  -- the cables by line, as they are lent
  pub lent_lowers : map lower_of (take g.cables g.spans) ≡ (graph_in g).lowers
  unfolding lower_ranks
  lent_lowers = sym (take-map lower_of g.cables g.spans)

  pub lent_uppers : map upper_of (take g.cables g.spans) ≡ (graph_in g).uppers
  unfolding upper_ranks
  lent_uppers = sym (take-map upper_of g.cables g.spans)

  pub lent_count : length (take g.cables g.spans) ≡ size (graph_in g)
  lent_count = sym (length-map (take g.cables g.spans) lower_of) ∙ ap length lent_lowers

  module _ (i : ℕ) (h : i < size (graph_in g)) where
    pub lent_lower : (span_at (take g.cables g.spans) i).lower.0 ≡ lower (graph_in g) i
    lent_lower =
        let b : i < g.cables = omega (arith, lines_count) in
        ap (λ (s : Span). s.lower.0) (get_or-take g.cables g.spans i no_span b) ∙ lower_read g.cables g.spans i b

    pub lent_upper : (span_at (take g.cables g.spans) i).upper.0 ≡ upper (graph_in g) i
    lent_upper =
        let b : i < g.cables = omega (arith, lines_count) in
        ap (λ (s : Span). s.upper.0) (get_or-take g.cables g.spans i no_span b) ∙ upper_read g.cables g.spans i b

  ranked : Ranked (graph_in g)
  ranked = let G = g.is_ranked in record {
    lines = G.tops ∙ sym G.lines;
    rises = λ i h. G.rises i (omega (arith, lines_count));
    inside = λ i h. G.inside i (omega (arith, lines_count));
    entered = λ k h l. subst (λ (m : ℕ). (i : ℕ) × (i < m) × (upper (graph_in g) i ≡ k)) lines_count (line_at g.cables (upper (graph_in g)) k (G.entered k h l));
    continued = λ k h. subst (λ (m : ℕ). (i : ℕ) × (i < m) × (lower (graph_in g) i ≡ k)) lines_count (line_at g.cables (lower (graph_in g)) k (G.continued k h));
    four = λ k. subst (λ (m : ℕ). length (lines_at m (lower (graph_in g)) k) + length (lines_at m (upper (graph_in g)) k) ≤ most_degree) lines_count (G.four k);
  }

  -- so it is one that the layout may start from
  pub graph_fits : GraphFits g
  graph_fits = let G = g.is_ranked in record { ranked = ranked; cables = G.few_cables; least = G.some_parts; most = G.few_parts }

-- and the array of a ranked graph is such a graph's
by_array : (parts cables : ℕ) (spans : List Span) → let H = graph_by parts cables spans in
    Ranked H → cables ≡ size H → cables ≤ most_cables → 2 ≤ parts → parts ≤ most_parts → IsRanked parts cables spans
by_array parts cables spans R n few some most = let H = graph_by parts cables spans in record {
  lines = sym n;
  tops = R.lines ∙ sym n;
  rises = λ i h. R.rises i (omega (arith, n));
  inside = λ i h. R.inside i (omega (arith, n));
  entered = λ k h l. subst (λ (m : ℕ). 0 < length (lines_at m (upper H) k)) (sym n) (some_lines (size H) (upper H) k (R.entered k h l));
  continued = λ k h. subst (λ (m : ℕ). 0 < length (lines_at m (lower H) k)) (sym n) (some_lines (size H) (lower H) k (R.continued k h));
  four = λ k. subst (λ (m : ℕ). length (lines_at m (lower H) k) + length (lines_at m (upper H) k) ≤ most_degree) (sym n) (R.four k);
  few_cables = few;
  some_parts = some;
  few_parts = most;
}

pub is_ranked : (parts cables : ℕ) (spans : List Span) {G : StGraph} → graph_by parts cables spans ≡ G → Ranked G → cables ≡ size G
    → cables ≤ most_cables → 2 ≤ parts → parts ≤ most_parts → IsRanked parts cables spans
is_ranked parts cables spans {G} e R n = by_array parts cables spans (subst Ranked (sym e) R) (n ∙ ap (λ (F : StGraph). size F) (sym e))
