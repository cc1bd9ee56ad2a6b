-- What holds of every ranked st-graph. Assumes nothing.
use Prim.Native.Nat.{ℕ, zero, suc, ◌+◌, ◌-◌, ◌*◌, ◌<◌, ◌≤◌}
use native.Mathlib.Omega.{arith}
use mathlib.Core.Path.{◌≡◌}
use mathlib.Core.Bool.{true}
use lib.ListN.{length}
use lib.Dec.{eqb, ltb}
use borrow.Author.Tests.{lt-ltb, le-ltb}
use Rattle.words.specs.Limits.{most_degree}
use Rattle.lists.specs.Select.{range, count}
use Rattle.lists.proofs.Select.{length_filter}
use Rattle.lists.proofs.Sums.{count_none, count_all, count_key}
use Rattle.order.specs.Graph.{StGraph, size, lower, upper, lines_at}
use Rattle.order.specs.RankedGraphs.{Ranked}

module _ (g : StGraph) (R : Ranked g) where
  pub lower_inside : (i : ℕ) → i < size g → lower g i < g.parts
  lower_inside i h = omega (arith, R.rises i h, R.inside i h)

  -- s is joined to rank 1, and rank n - 2 to t (of every st-ordering: `source_second`, `analyser_last_but_one` in proofs/StOrder)

  pub second_joined : 2 ≤ g.parts → (i : ℕ) × (i < size g) × (lower g i ≡ 0) × (upper g i ≡ 1)
  second_joined two =
      let c = R.entered 1 (omega arith) two in
      (c.0, c.1, omega (arith, R.rises c.0 c.1, c.2), c.2)

  pub last_joined : 2 ≤ g.parts → (i : ℕ) × (i < size g) × (lower g i ≡ g.parts - 2) × (upper g i ≡ g.parts - 1)
  last_joined two =
      let c = R.continued (g.parts - 2) (omega arith) in
      (c.0, c.1, c.2, omega (arith, R.rises c.0 c.1, R.inside c.0 c.1, c.2))

  -- the lines whose rank, as the function gives it, is less than k
  below : (ℕ → ℕ) → ℕ → ℕ
  below rank k = count (λ i. ltb (rank i) k) (range (size g))

  below_none : (rank : ℕ → ℕ) → below rank 0 ≡ 0
  unfolding below
  below_none rank = count_none (λ i. ltb (rank i) 0) (size g) (λ i h. le-ltb (rank i) 0 (omega arith))

  below_more : (rank : ℕ → ℕ) (k : ℕ) → below rank (suc k) ≡ below rank k + length (lines_at (size g) rank k)
  unfolding below lines_at
  below_more rank k = omega (arith, count_key (λ i. true) rank k (size g), length_filter (λ i. eqb (rank i) k) (range (size g)))

  below_all : (rank : ℕ → ℕ) → ((i : ℕ) → i < size g → rank i < g.parts) → below rank g.parts ≡ size g
  unfolding below
  below_all rank h = count_all (λ i. ltb (rank i) g.parts) (size g) (λ i l. lt-ltb (rank i) g.parts (h i l))

  -- the cable ends at the first k ranks, four at a rank
  ends_le : (k : ℕ) → below (lower g) k + below (upper g) k ≤ most_degree * k
  ends_le zero = omega (arith, below_none (lower g), below_none (upper g))
  ends_le (suc k) = omega (arith, below_more (lower g) k, below_more (upper g) k, R.four k, ends_le k)

  -- Each cable has two ends, and each rank at most four.
  pub cables_le : size g ≤ 2 * g.parts
  cables_le =
      omega (
        arith,
        ends_le g.parts,
        below_all (lower g) (λ i h. omega (arith, R.rises i h, R.inside i h)),
        below_all (upper g) R.inside,
      )
