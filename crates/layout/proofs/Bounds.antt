-- Every column that is stored once k ranks stand is at most 4 k, since a rank adds at most three: the code's sums fit 16 bits. Assumes
-- nothing.
use Prim.Native.Nat.{ℕ, zero, suc, ◌+◌, ◌-◌, ◌*◌, ◌/◌, ◌<◌, ◌≤◌}
use native.Mathlib.Omega.{arith}
use native.Mathlib.Decide.{dec_lt, ℕ_discrete}
use mathlib.Core.Path.{◌≡◌, ap}
use lib.ListN.{get_or-eq_default}
use Rattle.order.specs.Graph.{StGraph, size, lower}
use Rattle.order.specs.RankedGraphs.{Ranked}
use Rattle.layout.specs.Columns.{columns}
use Rattle.layout.proofs.Moved.{moved_le}
use Rattle.layout.proofs.Step.{cable, part, width, ins, in_at, taken_column, lefts, rights, cable_start, width_start, cable_opened, cable_kept, length_cables, length_parts, part_kept, part_opened, width_suc, out_place_below, taken_column_none, degree, ports, taken_column_comes}

module _ (G : StGraph) where
  beyond : (k i : ℕ) → size G ≤ i → cable G k i ≡ 0
  unfolding cable
  beyond k i h = get_or-eq_default (columns G k).cables 0 (omega (arith, length_cables G k))

  parts_beyond : (k j : ℕ) → k ≤ j → part G k j ≡ 0
  unfolding part
  parts_beyond k j h = get_or-eq_default (columns G k).parts 0 (omega (arith, length_parts G k))

  pub record Small (k : ℕ) : Type 0 where
    pub cables : (i : ℕ) → cable G k i ≤ 4 * k
    pub parts : (j : ℕ) → part G k j ≤ 4 * k
    pub count : width G k ≤ 4 * k + 1

  start : Small 0
  unfolding part columns
  start = record { cables = λ i. cables_start i (dec_lt i (size G)); parts = λ j. omega arith; count = omega (arith, width_start G) }
    where
      cables_start : (i : ℕ) → Dec (i < size G) → cable G 0 i ≤ 4 * 0
      cables_start i (yes h) = omega (arith, cable_start G i h)
      cables_start i (no h) = omega (arith, beyond 0 i (omega arith))

  module _ (R : Ranked G) where
    pub taken_column_le : (k : ℕ) → Small k → taken_column G k ≤ 4 * k
    taken_column_le k s = go (dec_lt 0 (ins G k))
      where
        go : Dec (0 < ins G k) → taken_column G k ≤ 4 * k
        go (yes h) = omega (arith, taken_column_comes G R k h, s.cables (in_at G k ((ins G k - 1) / 2)))
        go (no h) = omega (arith, taken_column_none G k (omega arith))

    pub lefts_le : (k : ℕ) → lefts G k ≤ 1
    lefts_le k = (ports G R k).one_left

    pub rights_le : (k : ℕ) → rights G k ≤ 2
    rights_le k = (ports G R k).two_right

    next : (k : ℕ) → Small k → Small (suc k)
    next k s = record {
      cables = λ i. cables_next i (dec_lt i (size G)) (ℕ_discrete (lower G i) k);
      parts = λ j. parts_next j (dec_lt j k) (ℕ_discrete j k);
      count = omega (arith, width_suc G k, lefts_le k, rights_le k, s.count);
    }
      where
        cables_next : (i : ℕ) → Dec (i < size G) → Dec (lower G i ≡ k) → cable G (suc k) i ≤ 4 * suc k
        cables_next i (no h) d = omega (arith, beyond (suc k) i (omega arith))
        cables_next i (yes h) (no d) =
            omega (arith, cable_kept G k i h d, moved_le (taken_column G k) (lefts G k) (rights G k) (cable G k i), lefts_le k, rights_le k, s.cables i)
        cables_next i (yes h) (yes d) = omega (arith, cable_opened G R k i h d, taken_column_le k s, out_place_below G k i h d, degree G R k)

        parts_next : (j : ℕ) → Dec (j < k) → Dec (j ≡ k) → part G (suc k) j ≤ 4 * suc k
        parts_next j (yes h) d =
            omega (arith, part_kept G k j h, moved_le (taken_column G k) (lefts G k) (rights G k) (part G k j), lefts_le k, rights_le k, s.parts j)
        parts_next j (no h) (yes d) = omega (arith, ap (part G (suc k)) d, part_opened G k, taken_column_le k s, lefts_le k)
        parts_next j (no h) (no d) = omega (arith, parts_beyond (suc k) j (omega arith))

    pub small : (k : ℕ) → Small k
    small zero = start
    small (suc k) = next k (small k)
