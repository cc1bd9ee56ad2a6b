-- The columns once one more rank stands: of a cable that it opens, of every other cable, of the ranks below, of the rank itself; and the
-- outgoing and the incoming cables of a rank, by place. Assumes nothing.
use Prim.Native.Nat.{ℕ, zero, suc, ◌+◌, ◌-◌, ◌/◌, ◌<◌, ◌≤◌}
use native.Mathlib.Omega.{arith}
use native.Mathlib.Decide.{dec_lt, ℕ_discrete}
use mathlib.Core.Path.{◌≡◌, refl, sym, ap, ◌∙◌}
use mathlib.Core.List.{List, [], ◌∷◌, ◌++◌, map, Memᴰ}
use lib.ListN.{length, get_or, length-append, length-map, length-replicate, get_or-replicate, get_or-append, get_or-eq_default}
use lib.Seq.{get_or_at}
use borrow.Author.Tests.{eq-eqb, ne_eqb}
use Rattle.lists.specs.Select.{without, index_of, sort_by}
use Rattle.lists.proofs.Select.{get_d_tabulate, length_tabulate, get_d_map, get_d_mem, Distinct, distinct_places, index_of_below, get_d_index_of, index_of_one}
use Rattle.lists.proofs.Filters.{without_absent}
use Rattle.lists.proofs.Lastly.{lastly_e, lastly_i, length_lastly, distinct_lastly, lastly_last, lastly_rises, without_most}
use Rattle.lists.proofs.Sort.{sort_by_e, sort_by_i, length_sort_by, distinct_sort_by, rising_sort_by}
use Rattle.order.specs.Graph.{StGraph, size, lower, upper, lines_at}
use Rattle.order.specs.RankedGraphs.{Ranked}
use Rattle.layout.specs.Ports.{in_ports, out_ports, place_below, new_left, new_right, port_column}
use Rattle.layout.specs.Columns.{moved, bottom_line, top_line, by_rank, by_column, outgoing, incoming, taken, step, columns}
use Rattle.layout.proofs.Ports.{Ports, shown, port_column_lem}
use Rattle.layout.proofs.EndLines.{lines_at_e, lines_at_i, distinct_lines_at, bottom_ends, top_ends}

-- A list moved by f, with one element more

length_more : (f : ℕ → ℕ) (l : List ℕ) (a : ℕ) → length (map f l ++ a ∷ []) ≡ suc (length l)
length_more f l a = omega (arith, length-append (map f l) (a ∷ []), length-map l f)

get_d_more : (f : ℕ → ℕ) (l : List ℕ) (a j k : ℕ) → length l ≡ k → j < k → get_or (map f l ++ a ∷ []) j 0 ≡ f (get_or l j 0)
get_d_more f l a j k e h = get_or-append (map f l) (a ∷ []) 0 j (omega (arith, length-map l f)) ∙ get_d_map f l j 0 0 (omega arith)

get_d_last : (f : ℕ → ℕ) (l : List ℕ) (a k : ℕ) → length l ≡ k → get_or (map f l ++ a ∷ []) k 0 ≡ a
get_d_last f l a k e = get_or_at (map f l) a [] 0 k (length-map l f ∙ e)

-- An element by place, of a list of the length b

get_d_none : (f : ℕ → ℕ) (l : List ℕ) (j b : ℕ) → length l ≡ b → b ≡ 0 → get_or (map f l) j 0 ≡ 0
get_d_none f l j b e h = get_or-eq_default (map f l) 0 (omega (arith, length-map l f))

get_d_half : (f : ℕ → ℕ) (l : List ℕ) (q b : ℕ) → length l ≡ b → 0 < b → q ≡ (b - 1) / 2 → get_or (map f l) q 0 ≡ f (get_or l ((b - 1) / 2) 0)
get_d_half f l q b e h p = get_d_map f l q 0 0 (omega arith) ∙ ap (λ (c : ℕ). f (get_or l c 0)) p

module _ (G : StGraph) where
  -- Outgoing cables

  pub outgoing_e : {i : ℕ} (k : ℕ) → Memᴰ i (outgoing G k) → (i < size G) × (lower G i ≡ k)
  unfolding outgoing by_rank
  outgoing_e k h = lines_at_e (size G) (lower G) k (sort_by_e (upper G) (lines_at (size G) (lower G) k) (lastly_e (bottom_line G) _ h))

  pub outgoing_i : (i k : ℕ) → i < size G → lower G i ≡ k → Memᴰ i (outgoing G k)
  unfolding outgoing by_rank
  outgoing_i i k h e = lastly_i (bottom_line G) _ (sort_by_i (upper G) (lines_at (size G) (lower G) k) (lines_at_i i (size G) (lower G) k h e))

  pub length_outgoing : (k : ℕ) → length (outgoing G k) ≡ length (lines_at (size G) (lower G) k)
  unfolding outgoing by_rank
  length_outgoing k = length_lastly (bottom_line G) _ ∙ length_sort_by (upper G) (lines_at (size G) (lower G) k)

  pub distinct_by_rank : (k : ℕ) → Distinct (by_rank G k)
  unfolding by_rank
  distinct_by_rank k = distinct_sort_by (upper G) (lines_at (size G) (lower G) k) (distinct_lines_at (size G) (lower G) k)

  pub distinct_outgoing : (k : ℕ) → Distinct (outgoing G k)
  unfolding outgoing by_rank
  distinct_outgoing k = distinct_lastly (bottom_line G) _ (distinct_by_rank k)

  -- Incoming cables, with the columns xs of the cables

  pub incoming_e : {i : ℕ} (xs : List ℕ) (k : ℕ) → Memᴰ i (incoming G xs k) → (i < size G) × (upper G i ≡ k)
  unfolding incoming by_column
  incoming_e xs k h = lines_at_e (size G) (upper G) k (sort_by_e (λ i. get_or xs i 0) (lines_at (size G) (upper G) k) (lastly_e (top_line G) _ h))

  pub incoming_i : (xs : List ℕ) (i k : ℕ) → i < size G → upper G i ≡ k → Memᴰ i (incoming G xs k)
  unfolding incoming by_column
  incoming_i xs i k h e = lastly_i (top_line G) _ (sort_by_i (λ i. get_or xs i 0) (lines_at (size G) (upper G) k) (lines_at_i i (size G) (upper G) k h e))

  pub length_incoming : (xs : List ℕ) (k : ℕ) → length (incoming G xs k) ≡ length (lines_at (size G) (upper G) k)
  unfolding incoming by_column
  length_incoming xs k = length_lastly (top_line G) _ ∙ length_sort_by (λ i. get_or xs i 0) (lines_at (size G) (upper G) k)

  pub distinct_by_column : (xs : List ℕ) (k : ℕ) → Distinct (by_column G xs k)
  unfolding by_column
  distinct_by_column xs k = distinct_sort_by (λ i. get_or xs i 0) (lines_at (size G) (upper G) k) (distinct_lines_at (size G) (upper G) k)

  pub distinct_incoming : (xs : List ℕ) (k : ℕ) → Distinct (incoming G xs k)
  unfolding incoming by_column
  distinct_incoming xs k = distinct_lastly (top_line G) _ (distinct_by_column xs k)

  -- The bottom and the top connection are the last of their lists

  pub bottom_last : bottom_line G < size G → suc (index_of (bottom_line G) (outgoing G 0)) ≡ length (lines_at (size G) (lower G) 0)
  unfolding outgoing by_rank
  bottom_last h =
      lastly_last (bottom_line G) (by_rank G 0) (distinct_by_rank 0) (sort_by_i (upper G) _ (lines_at_i (bottom_line G) (size G) (lower G) 0 h (bottom_ends G h).1))
      ∙ length_sort_by (upper G) (lines_at (size G) (lower G) 0)

  pub top_last : (xs : List ℕ) → top_line G < size G → suc (index_of (top_line G) (incoming G xs (G.parts - 1))) ≡ length (lines_at (size G) (upper G) (G.parts - 1))
  unfolding incoming by_column
  top_last xs h =
      lastly_last (top_line G) (by_column G xs (G.parts - 1)) (distinct_by_column xs (G.parts - 1))
      (sort_by_i (λ i. get_or xs i 0) _ (lines_at_i (top_line G) (size G) (upper G) (G.parts - 1) h (top_ends G h).2))
      ∙ length_sort_by (λ i. get_or xs i 0) (lines_at (size G) (upper G) (G.parts - 1))

  -- the top connection is behind the first three
  before_top : (xs : List ℕ) (k b : ℕ) → b < length (lines_at (size G) (upper G) k) → b < 3 → b < length (without (top_line G) (by_column G xs k))
  unfolding by_column
  before_top xs k b g l = go (dec_lt (top_line G) (size G)) (ℕ_discrete (upper G (top_line G)) k)
    where
      lines : List ℕ
      lines = by_column G xs k

      all : length lines ≡ length (lines_at (size G) (upper G) k)
      all = length_sort_by (λ i. get_or xs i 0) (lines_at (size G) (upper G) k)

      within : Memᴰ (top_line G) lines → (top_line G < size G) × (upper G (top_line G) ≡ k)
      within m = lines_at_e (size G) (upper G) k (sort_by_e (λ i. get_or xs i 0) (lines_at (size G) (upper G) k) m)

      absent : (Memᴰ (top_line G) lines → ⊥) → b < length (without (top_line G) lines)
      absent n = omega (arith, ap length (without_absent (top_line G) lines n), all)

      go : Dec (top_line G < size G) → Dec (upper G (top_line G) ≡ k) → b < length (without (top_line G) lines)
      go (yes u) (yes v) =
          let f = top_ends G u in
          let e : G.parts - 1 ≡ k = sym f.2 ∙ v in
          omega (arith, f.0, ap (λ (r : ℕ). length (lines_at (size G) (upper G) r)) e, all, without_most (top_line G) lines (distinct_by_column xs k))
      go (yes u) (no v) = absent (λ m. v (within m).1)
      go (no u) v = absent (λ m. u (within m).0)

  -- of the first three incoming cables the one at the lower place is not right of the other
  pub incoming_rises :
      (xs : List ℕ) (k a b : ℕ) → a ≤ b → b < length (incoming G xs k) → b < 3
      → get_or xs (get_or (incoming G xs k) a 0) 0 ≤ get_or xs (get_or (incoming G xs k) b 0) 0
  unfolding incoming by_column
  incoming_rises xs k a b h g l =
      let key : ℕ → ℕ = λ i. get_or xs i 0 in
      lastly_rises key (top_line G) (sort_by key (lines_at (size G) (upper G) k)) (rising_sort_by key (lines_at (size G) (upper G) k)) a b h
      (before_top xs k b (omega (arith, length_lastly (top_line G) (sort_by key (lines_at (size G) (upper G) k)), length_sort_by key (lines_at (size G) (upper G) k))) l)

  -- The columns once k ranks stand: of the cable at line i, of rank j, and their count

  unfoldable pub cable : ℕ → ℕ → ℕ
  cable k i = get_or (columns G k).cables i 0

  unfoldable pub part : ℕ → ℕ → ℕ
  part k j = get_or (columns G k).parts j 0

  unfoldable pub width : ℕ → ℕ
  width k = (columns G k).count

  -- What rank k adds: how many come in and go out, the cable at a place, the place of a cable, the column taken, the new columns on its
  -- left and right

  unfoldable pub outs : ℕ → ℕ
  outs k = length (outgoing G k)

  unfoldable pub ins : ℕ → ℕ
  ins k = length (lines_at (size G) (upper G) k)

  unfoldable pub out_place : ℕ → ℕ → ℕ
  out_place k i = index_of i (outgoing G k)

  -- among the incoming cables by their columns once k ranks stand
  unfoldable pub in_place : ℕ → ℕ → ℕ
  in_place k i = index_of i (incoming G (columns G k).cables k)

  unfoldable pub in_at : ℕ → ℕ → ℕ
  in_at k j = get_or (incoming G (columns G k).cables k) j 0

  unfoldable pub taken_column : ℕ → ℕ
  taken_column k = taken G (columns G k).cables k

  unfoldable pub lefts : ℕ → ℕ
  lefts k = new_left (out_ports (ins k) (outs k))

  unfoldable pub rights : ℕ → ℕ
  rights k = new_right (out_ports (ins k) (outs k))

  -- The state at the start

  pub cable_start : (i : ℕ) → i < size G → cable 0 i ≡ 0
  unfolding cable columns
  cable_start i h = get_or-replicate (size G) i 0 0 h

  pub width_start : width 0 ≡ 1
  unfolding width columns
  width_start = refl

  -- The state once rank k stands

  opened_port : (k i : ℕ) → i < size G → lower G i ≡ k → cable (suc k) i ≡ get_or (map (port_column (taken_column k) (lefts k)) (out_ports (ins k) (outs k))) (out_place k i) 0
  unfolding cable columns step taken_column lefts out_place ins outs
  opened_port k i h e = get_d_tabulate (size G) _ i 0 h ∙ rw (eq-eqb (lower G i) k e)

  pub cable_kept : (k i : ℕ) → i < size G → (lower G i ≡ k → ⊥) → cable (suc k) i ≡ moved (taken_column k) (lefts k) (rights k) (cable k i)
  unfolding cable columns step taken_column lefts rights ins outs
  cable_kept k i h n = get_d_tabulate (size G) _ i 0 h ∙ rw (ne_eqb (lower G i) k n)

  pub length_cables : (k : ℕ) → length (columns G k).cables ≡ size G
  unfolding columns step
  length_cables zero = length-replicate (size G) 0
  length_cables (suc k) = length_tabulate (size G) _

  pub length_parts : (k : ℕ) → length (columns G k).parts ≡ k
  unfolding columns step
  length_parts zero = refl
  length_parts (suc k) = length_more _ (columns G k).parts _ ∙ ap suc (length_parts k)

  pub part_kept : (k j : ℕ) → j < k → part (suc k) j ≡ moved (taken_column k) (lefts k) (rights k) (part k j)
  unfolding part columns step taken_column lefts rights ins outs
  part_kept k j h = get_d_more _ (columns G k).parts _ j k (length_parts k) h

  pub part_opened : (k : ℕ) → part (suc k) k ≡ taken_column k + lefts k
  unfolding part columns step taken_column lefts rights ins outs
  part_opened k = get_d_last _ (columns G k).parts _ k (length_parts k)

  pub width_suc : (k : ℕ) → width (suc k) ≡ width k + lefts k + rights k
  unfolding width columns step lefts rights ins outs
  width_suc k = refl

  -- Places

  pub out_place_below : (k i : ℕ) → i < size G → lower G i ≡ k → out_place k i < outs k
  unfolding out_place outs
  out_place_below k i h e = index_of_below (outgoing G k) (outgoing_i i k h e)

  pub out_place_one : (k i j : ℕ) → i < size G → j < size G → lower G i ≡ k → lower G j ≡ k → out_place k i ≡ out_place k j → i ≡ j
  unfolding out_place
  out_place_one k i j h g e f q = index_of_one (outgoing G k) (outgoing_i i k h e) (outgoing_i j k g f) q

  pub in_place_below : (k i : ℕ) → i < size G → upper G i ≡ k → in_place k i < ins k
  unfolding in_place ins
  in_place_below k i h e =
      let xs = (columns G k).cables in
      omega (arith, index_of_below (incoming G xs k) (incoming_i xs i k h e), length_incoming xs k)

  pub in_place_one : (k i j : ℕ) → i < size G → j < size G → upper G i ≡ k → upper G j ≡ k → in_place k i ≡ in_place k j → i ≡ j
  unfolding in_place
  in_place_one k i j h g e f q =
      let xs = (columns G k).cables in
      index_of_one (incoming G xs k) (incoming_i xs i k h e) (incoming_i xs j k g f) q

  pub in_at_in_place : (k i : ℕ) → i < size G → upper G i ≡ k → in_at k (in_place k i) ≡ i
  unfolding in_at in_place
  in_at_in_place k i h e =
      let xs = (columns G k).cables in
      get_d_index_of (incoming G xs k) 0 (incoming_i xs i k h e)

  pub in_at_comes : (k j : ℕ) → j < ins k → (in_at k j < size G) × (upper G (in_at k j) ≡ k)
  unfolding in_at ins
  in_at_comes k j h =
      let xs = (columns G k).cables in
      incoming_e xs k (get_d_mem (incoming G xs k) j 0 (omega (arith, length_incoming xs k)))

  pub in_at_one : (k a b : ℕ) → a < ins k → b < ins k → in_at k a ≡ in_at k b → a ≡ b
  unfolding in_at ins
  in_at_one k a b h g e =
      let xs = (columns G k).cables in
      distinct_places (incoming G xs k) (distinct_incoming xs k) a b 0 (omega (arith, length_incoming xs k)) (omega (arith, length_incoming xs k)) e

  pub in_at_rises : (k a b : ℕ) → a ≤ b → b < ins k → b < 3 → cable k (in_at k a) ≤ cable k (in_at k b)
  unfolding in_at ins cable
  in_at_rises k a b h g l =
      let xs = (columns G k).cables in
      incoming_rises xs k a b h (omega (arith, length_incoming xs k)) l

  pub taken_column_none : (k : ℕ) → ins k ≡ 0 → taken_column k ≡ 0
  unfolding taken_column taken ins
  taken_column_none k e =
      let xs = (columns G k).cables in
      get_d_none (λ i. get_or xs i 0) (incoming G xs k) _ (ins k) (length_incoming xs k) e

  -- With at most four cables at a rank

  module _ (R : Ranked G) where
    pub degree : (k : ℕ) → ins k + outs k ≤ 4
    unfolding ins outs
    degree k = omega (arith, R.four k, length_outgoing k)

    -- the new columns of rank k
    pub ports : (k : ℕ) → Ports (ins k) (outs k) (lefts k) (rights k)
    unfolding lefts rights
    ports k = (shown (ins k) (outs k) (degree k)).columns

    -- the outgoing cables of rank k have the columns from the first new one on
    pub cable_opened : (k i : ℕ) → i < size G → lower G i ≡ k → cable (suc k) i ≡ taken_column k + out_place k i
    unfolding lefts
    cable_opened k i h e = opened_port k i h e ∙ port_column_lem (ins k) (outs k) (degree k) (taken_column k) (out_place k i) (out_place_below k i h e)

    pub taken_column_comes : (k : ℕ) → 0 < ins k → taken_column k ≡ cable k (in_at k ((ins k - 1) / 2))
    unfolding taken_column taken ins in_at cable
    taken_column_comes k h =
        let xs = (columns G k).cables in
        let e : length (incoming G xs k) ≡ ins k = length_incoming xs k in
        get_d_half (λ i. get_or xs i 0) (incoming G xs k) _ (ins k) e h
        (ap (λ (n : ℕ). place_below (in_ports n)) e ∙ (shown (ins k) (outs k) (degree k)).taken)
