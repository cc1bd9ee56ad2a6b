-- The count of columns while ranks are placed: every stored column is below it, it grows with the cables that were opened, and every column
-- is that of an opened cable. Assumes nothing.
use Prim.Native.Nat.{ℕ, zero, suc, ◌+◌, ◌-◌, ◌/◌, ◌<◌, ◌≤◌}
use mathlib.Core.Path.{◌≡◌, refl, ◌∙◌, ap, subst}
use mathlib.Core.Bool.{true}
use native.Mathlib.Omega.{arith}
use native.Mathlib.Decide.{dec_lt, ℕ_discrete}
use lib.Dec.{eqb, ltb}
use lib.ListN.{get_or, get_or-eq_default}
use borrow.Author.Tests.{lt-ltb, le-ltb}
use Rattle.lists.specs.Select.{range, count}
use Rattle.lists.proofs.Select.{get_d_mem, length_filter, index_of_get_d}
use Rattle.lists.proofs.Sums.{count_key, count_all, count_none}
use Rattle.order.specs.Graph.{StGraph, size, lower, lines_at}
use Rattle.order.specs.RankedGraphs.{Ranked}
use Rattle.layout.specs.Columns.{moved, outgoing, columns}
use Rattle.layout.proofs.Step.{outgoing_e, length_outgoing, distinct_outgoing, cable, part, width, outs, ins, out_place, in_at, taken_column, lefts, rights, cable_start, width_start, cable_opened, cable_kept, length_cables, part_kept, part_opened, width_suc, out_place_below, in_place_below, taken_column_none, ports, taken_column_comes}
use Rattle.layout.proofs.Moved.{moved_left, moved_right, moved_none, moved_le}

module _ (G : StGraph) where
  -- The outgoing cable at a place

  unfoldable pub out_at : ℕ → ℕ → ℕ
  out_at k j = get_or (outgoing G k) j 0

  pub out_at_goes : (k j : ℕ) → j < outs G k → (out_at k j < size G) × (lower G (out_at k j) ≡ k)
  unfolding out_at outs
  out_at_goes k j h = outgoing_e G k (get_d_mem (outgoing G k) j 0 h)

  pub out_place_out_at : (k j : ℕ) → j < outs G k → out_place G k (out_at k j) ≡ j
  unfolding out_at outs out_place
  out_place_out_at k j h = index_of_get_d (outgoing G k) j 0 (distinct_outgoing G k) h

  -- how many cables have their lower part among the first k ranks
  unfoldable pub opened : ℕ → ℕ
  opened k = count (λ i. ltb (lower G i) k) (range (size G))

  pub outs_count : (k : ℕ) → outs G k ≡ count (λ i. eqb (lower G i) k) (range (size G))
  unfolding outs lines_at
  outs_count k = length_outgoing G k ∙ length_filter (λ i. eqb (lower G i) k) (range (size G))

  pub opened_start : opened 0 ≡ 0
  unfolding opened
  opened_start = count_none (λ i. ltb (lower G i) 0) (size G) (λ i l. le-ltb (lower G i) 0 (omega arith))

  pub opened_suc : (k : ℕ) → opened (suc k) ≡ opened k + outs G k
  unfolding opened
  opened_suc k = omega (arith, count_key (λ i. true) (lower G) k (size G), outs_count k)

  -- a cable that has no line has column 0
  pub cable_none : (k i : ℕ) → size G ≤ i → cable G k i ≡ 0
  unfolding cable
  cable_none k i h = get_or-eq_default (columns G k).cables 0 (omega (arith, length_cables G k))

module _ (G : StGraph) (H : Ranked G) where
  -- at rank k: the count of columns before it, its new columns left and right, and its outgoing cables
  abbrev W : ℕ → ℕ
  W k = width G k

  abbrev A : ℕ → ℕ
  A k = lefts G k

  abbrev B : ℕ → ℕ
  B k = rights G k

  abbrev O : ℕ → ℕ
  O k = outs G k

  pub goes_out : (k : ℕ) → suc k < G.parts → 0 < outs G k
  goes_out k h = let c = H.continued k h in omega (arith, out_place_below G k c.0 c.1 c.2)

  pub comes_in : (k : ℕ) → 0 < k → k < G.parts → 0 < ins G k
  comes_in k h g = let c = H.entered k h g in omega (arith, in_place_below G k c.0 c.1 c.2)

  pub ends_all : (k : ℕ) → G.parts ≤ suc k → outs G k ≡ 0
  ends_all k h = go (dec_lt 0 (O k))
    where
      go : Dec (0 < O k) → O k ≡ 0
      go (yes l) =
          let g = out_at_goes G k 0 l in
          absurd (omega (arith, H.rises (out_at G k 0) g.0, H.inside (out_at G k 0) g.0))
      go (no l) = omega arith

  pub ends_none : (k : ℕ) → outs G k ≡ 0 → (lefts G k ≡ 0) × (rights G k ≡ 0)
  ends_none k e = (ports G H k).none e

  -- one column for each outgoing cable
  pub table : (k : ℕ) → 0 < outs G k → lefts G k + rights G k + 1 ≡ outs G k
  table k h = (ports G H k).all h

  -- The count of columns

  pub width_opened : (k : ℕ) → k < G.parts → W k + k ≡ opened G k + 1
  width_opened zero h = omega (arith, width_start G, opened_start G)
  width_opened (suc k) h =
      omega (arith, width_opened k (omega arith), width_suc G k, opened_suc G k, table k (goes_out k h))

  -- the last rank opens no cable and puts in no column
  pub width_ends : (k : ℕ) → outs G k ≡ 0 → width G (suc k) ≡ width G k
  width_ends k e = omega (arith, width_suc G k, ends_none k e)

  pub opened_all : (k : ℕ) → G.parts ≤ suc k → opened G k ≡ size G
  unfolding opened
  opened_all k h = count_all (λ i. ltb (lower G i) k) (size G) (λ i l. lt-ltb (lower G i) k (omega (arith, H.rises i l, H.inside i l)))

  width_last : (k : ℕ) → suc k ≡ G.parts → W (suc k) + suc k ≡ size G + 2
  width_last k e = omega (arith, width_ends k (ends_all k (omega arith)), width_opened k (omega arith), opened_all k (omega arith))

  pub width_all : 0 < G.parts → W G.parts + G.parts ≡ size G + 2
  width_all h = let e : suc (G.parts - 1) ≡ G.parts = omega arith in subst (λ (k : ℕ). W k + k ≡ size G + 2) e (width_last (G.parts - 1) e)

  -- the column of a cable that rank k opens is within the block from the one taken
  pub opened_within : (k i : ℕ) → i < size G → lower G i ≡ k → out_place G k i ≤ lefts G k + rights G k
  opened_within k i h e =
      let b : out_place G k i < O k = out_place_below G k i h e in
      omega (arith, table k (omega arith))

  -- Every stored column is below the count, a cable's that is not opened too.

  taken_column_below_of : (k : ℕ) → ((i : ℕ) → cable G k i < W k) → taken_column G k < W k
  taken_column_below_of k c = go (ℕ_discrete (ins G k) 0)
    where
      go : Dec (ins G k ≡ 0) → taken_column G k < W k
      go (yes e) = omega (arith, taken_column_none G k e, c 0)
      go (no q) = omega (arith, taken_column_comes G H k (omega arith), c (in_at G k ((ins G k - 1) / 2)))

  pub cable_below : (k i : ℕ) → cable G k i < W k
  cable_below zero i = go (dec_lt i (size G))
    where
      go : Dec (i < size G) → cable G 0 i < W 0
      go (yes l) = omega (arith, cable_start G i l, width_start G)
      go (no l) = omega (arith, cable_none G 0 i (omega arith), width_start G)
  cable_below (suc k) i = go (taken_column_below_of k (λ j. cable_below k j)) (cable_below k i) (dec_lt i (size G)) (ℕ_discrete (lower G i) k)
    where
      go : taken_column G k < W k → cable G k i < W k → Dec (i < size G) → Dec (lower G i ≡ k) → cable G (suc k) i < W (suc k)
      go t c (no l) d = omega (arith, cable_none G (suc k) i (omega arith), width_suc G k)
      go t c (yes l) (yes e) = omega (arith, cable_opened G H k i l e, opened_within k i l e, width_suc G k)
      go t c (yes l) (no e) =
          omega (arith, cable_kept G k i l e, width_suc G k, moved_le (taken_column G k) (A k) (B k) (cable G k i))

  pub taken_column_below : (k : ℕ) → taken_column G k < W k
  taken_column_below k = taken_column_below_of k (cable_below k)

  pub part_below : (k j : ℕ) → j < k → part G k j < W k
  part_below zero j h = absurd (omega arith)
  part_below (suc k) j h = go (λ l. part_below k j l) (dec_lt j k)
    where
      go : (j < k → part G k j < W k) → Dec (j < k) → part G (suc k) j < W (suc k)
      go below (yes l) =
          omega (arith, below l, part_kept G k j l, width_suc G k, moved_le (taken_column G k) (A k) (B k) (part G k j))
      go below (no l) =
          let e : j ≡ k = omega arith in
          rw e (omega (arith, taken_column_below k, part_opened G k, width_suc G k))

  -- Once s stands, every column is that of an opened cable.

  abbrev Held : ℕ → ℕ → Type 0
  Held k c = (i : ℕ) × (i < size G) × (lower G i < k) × (cable G k i ≡ c)

  -- a column that was held is held where it moved to
  held_kept : (k c : ℕ) → Held k c → Held (suc k) (moved (taken_column G k) (A k) (B k) c)
  held_kept k c (i, l, o, e) =
      (i, l, omega arith, cable_kept G k i l (λ q. omega arith) ∙ ap (moved (taken_column G k) (A k) (B k)) e)

  held_cast : (k c d : ℕ) → c ≡ d → Held k c → Held k d
  held_cast k c d q (i, l, o, e) = (i, l, o, e ∙ q)

  held_near : (k j : ℕ) → j < outs G k → Held (suc k) (taken_column G k + j)
  held_near k j h =
      let g = out_at_goes G k j h in
      (out_at G k j, g.0, omega arith, cable_opened G H k (out_at G k j) g.0 g.1 ∙ rw (out_place_out_at G k j h) refl)

  held_suc : (k : ℕ) → 0 < outs G k → ((c : ℕ) → c < W k → (c ≡ taken_column G k → ⊥) → Held k c) → (c : ℕ) → c < W (suc k) → Held (suc k) c
  held_suc k h old c l = go (dec_lt c p) (dec_lt (p + A k + B k) c)
    where
      p : ℕ
      p = taken_column G k

      go : Dec (c < p) → Dec (p + A k + B k < c) → Held (suc k) c
      go (yes u) d =
          held_cast (suc k) _ c (moved_left p (A k) (B k) c u) (held_kept k c (old c (omega (arith, taken_column_below k)) (λ q. omega arith)))
      go (no u) (no v) = held_cast (suc k) (p + (c - p)) c (omega arith) (held_near k (c - p) (omega (arith, table k h)))
      go (no u) (yes v) =
          let d : ℕ = c - (A k + B k) in
          held_cast (suc k) _ c (moved_right p (A k) (B k) d (omega arith) ∙ omega arith) (held_kept k d (old d (omega (arith, width_suc G k)) (λ q. omega arith)))

  pub reached : 2 ≤ G.parts → (k c : ℕ) → c < W (suc k) → (i : ℕ) × (i < size G) × (lower G i < suc k) × (cable G (suc k) i ≡ c)
  reached two zero c h = held_suc 0 (goes_out 0 two) (λ d l q. absurd (omega (arith, taken_column_below 0, width_start G))) c h
  reached two (suc k) c h = go (λ d l. reached two k d l) (ℕ_discrete (O (suc k)) 0)
    where
      go : ((d : ℕ) → d < W (suc k) → Held (suc k) d) → Dec (O (suc k) ≡ 0) → Held (suc (suc k)) c
      go old (yes e) =
          held_cast (suc (suc k)) _ c (moved_none (taken_column G (suc k)) (A (suc k)) (B (suc k)) c (ends_none (suc k) e).0 (ends_none (suc k) e).1)
          (held_kept (suc k) c (old c (omega (arith, width_ends (suc k) e))))
      go old (no e) = held_suc (suc k) (omega arith) (λ d l q. old d l) c h
