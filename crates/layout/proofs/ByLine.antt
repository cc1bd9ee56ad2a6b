-- Request 2026-12: 'Cables and columns are then kept by line number.' The cables at a rank in their sequence, and the lines at the bottom
-- and at the top connection, where several cables join the same two ranks. Assumes nothing.
use Prim.Native.Nat.{ℕ, ◌-◌, ◌<◌, ◌≤◌}
use native.Mathlib.Omega.{arith}
use native.Mathlib.Decide.{ℕ_discrete}
use mathlib.Core.Path.{◌≡◌}
use mathlib.Core.List.{List}
use lib.ListN.{length, get_or}
use lib.Dec.{eqb}
use borrow.Author.Tests.{eq-eqb}
use Rattle.lists.specs.Select.{range, sort_by}
use Rattle.lists.proofs.Select.{get_d_mem}
use Rattle.lists.proofs.Sort.{sort_by_e, Rising}
use Rattle.lists.proofs.Stable.{Precedes, stable_sort_by, stable_places}
use Rattle.lists.proofs.Sets.{rising_filter, rising_range}
use Rattle.order.specs.Graph.{StGraph, size, lower, upper, lines_at}
use Rattle.order.specs.RankedGraphs.{Ranked}
use Rattle.layout.specs.Columns.{bottom_line, top_line, by_rank, by_column, columns}
use Rattle.layout.proofs.EndLines.{lines_at_e, distinct_lines_at, between_lowest}
use Rattle.layout.proofs.Step.{cable}
use Rattle.layout.proofs.Invariant.{invariant}

-- the lines at a rank rise
pub lines_rise : (m : ℕ) (rank : ℕ → ℕ) (k : ℕ) → Rising (λ i. i) (lines_at m rank k)
unfolding lines_at
lines_rise m rank k = rising_filter (λ i. i) (λ i. eqb (rank i) k) (range m) (rising_range m)

sorted_precedes :
    (key : ℕ → ℕ) (m : ℕ) (rank : ℕ → ℕ) (k a b : ℕ) → a < b → b < length (sort_by key (lines_at m rank k))
    → Precedes key (get_or (sort_by key (lines_at m rank k)) a 0) (get_or (sort_by key (lines_at m rank k)) b 0)
sorted_precedes key m rank k a b h g =
    stable_places key (sort_by key (lines_at m rank k)) (stable_sort_by key (lines_at m rank k) (lines_rise m rank k) (distinct_lines_at m rank k)) a b 0 h g

module _ (G : StGraph) where
  -- 'Among equal ranks of far ends the lower line comes first', of the cables that go out
  pub by_rank_precedes :
      (k a b : ℕ) → a < b → b < length (by_rank G k) → Precedes (upper G) (get_or (by_rank G k) a 0) (get_or (by_rank G k) b 0)
  unfolding by_rank
  by_rank_precedes k a b h g = sorted_precedes (upper G) (size G) (lower G) k a b h g

  -- of those that come in, by their columns xs
  pub by_column_precedes :
      (xs : List ℕ) (k a b : ℕ) → a < b → b < length (by_column G xs k)
      → Precedes (λ i. get_or xs i 0) (get_or (by_column G xs k) a 0) (get_or (by_column G xs k) b 0)
  unfolding by_column
  by_column_precedes xs k a b h g = sorted_precedes (λ i. get_or xs i 0) (size G) (upper G) k a b h g

  -- no two of those that come in have the same column
  pub by_column_rises :
      Ranked G → (k a b : ℕ) → k ≤ G.parts → a < b → b < length (by_column G (columns G k).cables k)
      → get_or (columns G k).cables (get_or (by_column G (columns G k).cables k) a 0) 0
      < get_or (columns G k).cables (get_or (by_column G (columns G k).cables k) b 0) 0
  unfolding by_column cable
  by_column_rises R k a b n h g = go (ℕ_discrete (key i) (key j))
    where
      key : ℕ → ℕ
      key l = get_or (columns G k).cables l 0

      lines : List ℕ
      lines = sort_by key (lines_at (size G) (upper G) k)

      i : ℕ
      i = get_or lines a 0

      j : ℕ
      j = get_or lines b 0

      there : (c : ℕ) → c < length lines → (get_or lines c 0 < size G) × (upper G (get_or lines c 0) ≡ k)
      there c l = lines_at_e (size G) (upper G) k (sort_by_e key (lines_at (size G) (upper G) k) (get_d_mem lines c 0 l))

      p : Precedes key i j
      p = by_column_precedes (columns G k).cables k a b h g

      go : Dec (key i ≡ key j) → key i < key j
      go (yes e) =
          let u = there a (omega arith) in
          let v = there b g in
          absurd
          ((invariant G R k n).apart i j u.0 v.0 (λ q. omega (arith, p.lower e))
          (omega (arith, R.rises i u.0, u.1)) (omega (arith, R.rises j v.0, v.1))
          (omega (arith, R.rises i u.0, u.1, v.1)) (omega (arith, R.rises j v.0, u.1, v.1)) e)
      go (no q) = omega (arith, p.rises)

  -- 'where several could leave s downward or climb over t, the lowest line does'
  pub bottom_lowest : length (lines_at (size G) (lower G) 0) ≡ 4 → (i : ℕ) → i < size G → lower G i ≡ 0 → upper G i ≡ 1 → bottom_line G ≤ i
  unfolding bottom_line
  bottom_lowest e i h a b = rw (eq-eqb _ 4 e) (between_lowest G 0 1 i h a b)

  pub top_lowest :
      length (lines_at (size G) (upper G) (G.parts - 1)) ≡ 4 → (i : ℕ) → i < size G → lower G i ≡ G.parts - 2 → upper G i ≡ G.parts - 1
      → top_line G ≤ i
  unfolding top_line
  top_lowest e i h a b = rw (eq-eqb _ 4 e) (between_lowest G (G.parts - 2) (G.parts - 1) i h a b)
