-- What an order leaves of the cables in ranks, which is all that the layout asks for. Assumes nothing.
use Rattle.std.specs.Prelude.{ℕ, suc, ◌+◌, ◌<◌, ◌≤◌, ◌≡◌, length}
use Rattle.words.specs.Limits.{most_degree}
use Rattle.order.specs.Graph.{StGraph, size, lower, upper, lines_at}

-- Every cable's ends differ in rank, every rank above 0 has a cable from below, every rank below the last has one upward, and no rank has
-- more than four.
pub record Ranked (g : StGraph) : Type 0 where
  pub lines : length g.uppers ≡ size g
  pub rises : (i : ℕ) → i < size g → lower g i < upper g i
  pub inside : (i : ℕ) → i < size g → upper g i < g.parts
  pub entered : (k : ℕ) → 0 < k → k < g.parts → (i : ℕ) × (i < size g) × (upper g i ≡ k)
  pub continued : (k : ℕ) → suc k < g.parts → (i : ℕ) × (i < size g) × (lower g i ≡ k)
  pub four : (k : ℕ) → length (lines_at (size g) (lower g) k) + length (lines_at (size g) (upper g) k) ≤ most_degree
