-- The cables in ranks that the code's array holds, and what holds of each such array that the layout starts from. Assumes nothing.
use Rattle.std.specs.Prelude.{ℕ, suc, ◌+◌, ◌<◌, ◌≤◌, ◌≡◌, List, map, length, take}
use Rattle.words.specs.Limits as limits
use Rattle.words.specs.Limits.{most_cables, most_degree}
use Rattle.ranking.specs.declared.graph.Span.{Span}
use Rattle.order.specs.Graph.{StGraph, lower, upper, lines_at}

-- the lower and the upper ranks, as numbers
unfoldable pub lower_ranks : List Span → List ℕ
lower_ranks spans = map (λ (s : Span). s.lower.0) spans

unfoldable pub upper_ranks : List Span → List ℕ
upper_ranks spans = map (λ (s : Span). s.upper.0) spans

-- as many lines as there are cables
abbrev pub graph_by : ℕ → ℕ → List Span → StGraph
graph_by parts cables spans = record {
  parts = parts;
  lowers = take cables (lower_ranks spans);
  uppers = take cables (upper_ranks spans);
}

-- `Ranked`, said so that there is one proof at most, of a graph within the array: where a rank has a cable, the lines at it are some
pub record IsRanked (parts cables : ℕ) (spans : List Span) : Type 0 where
  pub lines : length (graph_by parts cables spans).lowers ≡ cables
  pub tops : length (graph_by parts cables spans).uppers ≡ cables
  pub rises : (i : ℕ) → i < cables → lower (graph_by parts cables spans) i < upper (graph_by parts cables spans) i
  pub inside : (i : ℕ) → i < cables → upper (graph_by parts cables spans) i < parts
  pub entered : (k : ℕ) → 0 < k → k < parts → 0 < length (lines_at cables (upper (graph_by parts cables spans)) k)
  pub continued : (k : ℕ) → suc k < parts → 0 < length (lines_at cables (lower (graph_by parts cables spans)) k)
  pub four : (k : ℕ)
      → length (lines_at cables (lower (graph_by parts cables spans)) k) + length (lines_at cables (upper (graph_by parts cables spans)) k) ≤ most_degree
  pub few_cables : cables ≤ most_cables
  pub some_parts : 2 ≤ parts
  pub few_parts : parts ≤ limits.most_parts
