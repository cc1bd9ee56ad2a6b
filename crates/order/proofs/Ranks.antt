-- Ranks and parts are each other's inverse, and the cables in ranks are what the layout asks for. Assumes nothing.
use Prim.Native.Nat.{ℕ, zero, suc, ◌+◌, ◌<◌, ◌≤◌, min, max}
use native.Mathlib.Omega.{arith}
use native.Mathlib.Decide.{ℕ_discrete, dec_lt}
use mathlib.Core.Path.{◌≡◌, refl, sym, ap, ◌∙◌, subst}
use mathlib.Core.Logic.{◌⊎◌, inl, inr}
use mathlib.Core.Bool.{Bool, true, ◌||◌}
use lib.ListN.{length, get_or, length-map}
use lib.Dec.{eqb}
use borrow.Author.Tests.{eq-eqb, ne_eqb}
use Rattle.words.specs.Limits.{most_degree}
use Rattle.lists.specs.Select.{range, one_if, count}
use Rattle.lists.proofs.Select.{get_d_map, length_filter, index_of_below, get_d_index_of, index_of_get_d}
use Rattle.lists.proofs.Bools.{or_right}
use Rattle.lists.proofs.Sums.{count_none}
use Rattle.lists.proofs.Tally.{count_places, count_two}
use Rattle.station.specs.Station.{Cable, Station, joins, degree, no_cable}
use Rattle.order.specs.Reach.{Joined}
use Rattle.order.specs.Order.{order, rank_in}
use Rattle.order.specs.StOrder.{StOrdering}
use Rattle.order.specs.Graph.{StGraph, size, lower, upper, lines_at}
use Rattle.order.specs.RankedGraphs.{Ranked}
use Rattle.order.specs.Orientation.{lower_rank, upper_rank, ranked_by, graph_of}
use Rattle.order.proofs.Joins.{within, cable_at, Between, Lined, joined_line, joined_sym}
use Rattle.order.proofs.Bipolar.{Orderable}
use Rattle.order.proofs.StOrder.{order_ordering, order_mem, order_distinct}

-- The cables in ranks, by line

module _ (st : Station) where
  pub graph_parts : (graph_of st).parts ≡ st.parts
  unfolding graph_of ranked_by
  graph_parts = refl

  pub graph_size : size (graph_of st) ≡ length st.cables
  unfolding graph_of ranked_by
  graph_size = length-map st.cables (lower_rank (order st))

  graph_lines : length (graph_of st).uppers ≡ size (graph_of st)
  unfolding graph_of ranked_by
  graph_lines = length-map st.cables (upper_rank (order st)) ∙ sym (length-map st.cables (lower_rank (order st)))

  pub lower_is : (i : ℕ) → i < length st.cables
      → lower (graph_of st) i ≡ min (rank_in (order st) (cable_at st.cables i).one) (rank_in (order st) (cable_at st.cables i).other)
  unfolding graph_of ranked_by lower_rank
  lower_is i h = get_d_map (lower_rank (order st)) st.cables i no_cable 0 h

  pub upper_is : (i : ℕ) → i < length st.cables
      → upper (graph_of st) i ≡ max (rank_in (order st) (cable_at st.cables i).one) (rank_in (order st) (cable_at st.cables i).other)
  unfolding graph_of ranked_by upper_rank
  upper_is i h = get_d_map (upper_rank (order st)) st.cables i no_cable 0 h

-- Of two different ranks a and b at most one is k, and it passes its test.
ends_once : (a b k : ℕ) (x y : Bool) → (a ≡ b → ⊥) → (a ≡ k → x ≡ true) → (b ≡ k → y ≡ true)
    → one_if (eqb (min a b) k) + one_if (eqb (max a b) k) ≤ one_if (x || y)
ends_once a b k x y n f g = go (ℕ_discrete (min a b) k) (ℕ_discrete (max a b) k)
  where
    some : Dec (a ≡ k) → (min a b ≡ k) ⊎ (max a b ≡ k) → (x || y) ≡ true
    some (yes e) h = rw (f e) refl
    some (no d) (inl h) = or_right x y (g (omega arith))
    some (no d) (inr h) = or_right x y (g (omega arith))

    go : Dec (min a b ≡ k) → Dec (max a b ≡ k) → one_if (eqb (min a b) k) + one_if (eqb (max a b) k) ≤ one_if (x || y)
    go (yes p) (yes q) = absurd (n (omega arith))
    go (yes p) (no q) = rw (eq-eqb (min a b) k p, ne_eqb (max a b) k q, some (ℕ_discrete a k) (inl p)) (omega arith)
    go (no p) (yes q) = rw (ne_eqb (min a b) k p, eq-eqb (max a b) k q, some (ℕ_discrete a k) (inr q)) (omega arith)
    go (no p) (no q) = rw (ne_eqb (min a b) k p, ne_eqb (max a b) k q) (omega arith)

module _ (st : Station) (H : Orderable st) where
  O : StOrdering st (order st)
  O = order_ordering st H

  pub rank_below : (p : ℕ) → p < st.parts → rank_in (order st) p < st.parts
  unfolding rank_in
  rank_below p l = omega (arith, index_of_below (order st) (order_mem st H p l), O.all)

  pub part_of_rank : (p : ℕ) → p < st.parts → get_or (order st) (rank_in (order st) p) 0 ≡ p
  unfolding rank_in
  part_of_rank p l = get_d_index_of (order st) 0 (order_mem st H p l)

  pub rank_of_part : (k : ℕ) → k < st.parts → rank_in (order st) (get_or (order st) k 0) ≡ k
  unfolding rank_in
  rank_of_part k l = index_of_get_d (order st) k 0 (order_distinct st H) (omega (arith, O.all))

  pub rank_one : (p q : ℕ) → p < st.parts → q < st.parts → rank_in (order st) p ≡ rank_in (order st) q → p ≡ q
  rank_one p q l m e = sym (part_of_rank p l) ∙ ap (λ (k : ℕ). get_or (order st) k 0) e ∙ part_of_rank q m

  -- 's has rank 0', 't comes last'
  pub rank_source : rank_in (order st) st.source ≡ 0
  rank_source = ap (rank_in (order st)) (sym O.first) ∙ rank_of_part 0 (omega (arith, H.wired.source))

  pub rank_analyser : suc (rank_in (order st) st.analyser) ≡ st.parts
  rank_analyser = go st.parts refl
    where
      go : (n : ℕ) → st.parts ≡ n → suc (rank_in (order st) st.analyser) ≡ st.parts
      go zero e = absurd (omega (arith, H.wired.analyser))
      go (suc k) e = ap (λ (p : ℕ). suc (rank_in (order st) p)) (sym (O.last k (sym e))) ∙ ap suc (rank_of_part k (omega arith)) ∙ sym e

  -- the cable of a line between two parts, in ranks
  between_ranks : (i u v : ℕ) → i < length st.cables → Between (cable_at st.cables i) u v
      → (lower (graph_of st) i ≡ min (rank_in (order st) u) (rank_in (order st) v)) × (upper (graph_of st) i ≡ max (rank_in (order st) u) (rank_in (order st) v))
  between_ranks i u v h (inl b) = rw (lower_is st i h, upper_is st i h, b.0, b.1) (refl, refl)
  between_ranks i u v h (inr b) = rw (lower_is st i h, upper_is st i h, b.0, b.1) (omega arith)

  abbrev g : StGraph
  g = graph_of st

  line_of : {i : ℕ} → i < length st.cables → i < size g
  line_of l = omega (arith, graph_size st)

  cable_of_lem : {i : ℕ} → i < size g → i < length st.cables
  cable_of_lem l = omega (arith, graph_size st)

  -- ranks whose parts are joined are the ranks of some cable
  line_between_lem : (j k : ℕ) → j < k → k < st.parts → Joined st.cables (get_or (order st) k 0) (get_or (order st) j 0)
      → (i : ℕ) × (i < size g) × (lower g i ≡ j) × (upper g i ≡ k)
  line_between_lem j k h l c =
      let i : Lined st.cables (get_or (order st) k 0) (get_or (order st) j 0) = joined_line st.cables (get_or (order st) k 0) (get_or (order st) j 0) c in
      let r : rank_in (order st) (get_or (order st) k 0) ≡ k = rank_of_part k l in
      let q : rank_in (order st) (get_or (order st) j 0) ≡ j = rank_of_part j (omega arith) in
      let b : (lower g i.0 ≡ min (rank_in (order st) (get_or (order st) k 0)) (rank_in (order st) (get_or (order st) j 0)))
      × (upper g i.0 ≡ max (rank_in (order st) (get_or (order st) k 0)) (rank_in (order st) (get_or (order st) j 0))) =
      between_ranks i.0 (get_or (order st) k 0) (get_or (order st) j 0) i.1 i.2 in
      (i.0, line_of i.1, omega arith, omega arith)

  -- the ranks of a cable's two parts differ
  ranks_apart : (i : ℕ) → i < length st.cables → rank_in (order st) (cable_at st.cables i).one ≡ rank_in (order st) (cable_at st.cables i).other → ⊥
  ranks_apart i l e = H.wired.loopless i l (rank_one (cable_at st.cables i).one (cable_at st.cables i).other (within H.wired i l).0 (within H.wired i l).1 e)

  rises : (i : ℕ) → i < size g → lower g i < upper g i
  rises i l =
      rw (lower_is st i (cable_of_lem l), upper_is st i (cable_of_lem l))
      (apart (rank_in (order st) (cable_at st.cables i).one) (rank_in (order st) (cable_at st.cables i).other) (ranks_apart i (cable_of_lem l)))
    where
      apart : (a b : ℕ) → (a ≡ b → ⊥) → min a b < max a b
      apart a b n = omega arith

  inside : (i : ℕ) → i < size g → upper g i < st.parts
  inside i l =
      rw (upper_is st i (cable_of_lem l))
      (below (rank_in (order st) (cable_at st.cables i).one) (rank_in (order st) (cable_at st.cables i).other)
      (rank_below (cable_at st.cables i).one (within H.wired i (cable_of_lem l)).0) (rank_below (cable_at st.cables i).other (within H.wired i (cable_of_lem l)).1))
    where
      below : (a b : ℕ) → a < st.parts → b < st.parts → max a b < st.parts
      below a b h k = omega arith

  -- Each rank but 0 has a cable from below. The last has the one that its forerunner has upward.
  entered : (k : ℕ) → 0 < k → k < st.parts → (i : ℕ) × (i < size g) × (upper g i ≡ k)
  entered k h l = go (dec_lt (suc k) st.parts)
    where
      from : (j : ℕ) → j < k → Joined st.cables (get_or (order st) k 0) (get_or (order st) j 0) → (i : ℕ) × (i < size g) × (upper g i ≡ k)
      from j m c =
          let f : (i : ℕ) × (i < size g) × (lower g i ≡ j) × (upper g i ≡ k) = line_between_lem j k m l c in
          (f.0, f.1, f.3)

      last : (j : ℕ) → suc j ≡ k → (a : ℕ) × (j < a) × (a < st.parts) × Joined st.cables (get_or (order st) j 0) (get_or (order st) a 0)
          → st.parts ≤ suc k → (i : ℕ) × (i < size g) × (upper g i ≡ k)
      last j e f n =
          let q : f.0 ≡ k = omega (arith, f.1, f.2) in
          from j (omega arith) (joined_sym st.cables (subst (λ (a : ℕ). Joined st.cables (get_or (order st) j 0) (get_or (order st) a 0)) q f.3))

      step : (j : ℕ) → suc j ≡ k → st.parts ≤ suc k → (i : ℕ) × (i < size g) × (upper g i ≡ k)
      step j e n = last j e (O.after j (omega (arith, H.wired.least)) (omega arith)) n

      pred : (j : ℕ) → j ≡ k → st.parts ≤ suc k → (i : ℕ) × (i < size g) × (upper g i ≡ k)
      pred zero e n = absurd (omega arith)
      pred (suc j) e n = step j e n

      go : Dec (suc k < st.parts) → (i : ℕ) × (i < size g) × (upper g i ≡ k)
      go (yes m) = let f : (j : ℕ) × (j < k) × Joined st.cables (get_or (order st) k 0) (get_or (order st) j 0) = O.before k h m in from f.0 f.1 f.2
      go (no n) = pred k refl (omega arith)

  -- Each rank but the last has a cable upward. Rank 0 has the one that rank 1 has from below.
  continued : (k : ℕ) → suc k < st.parts → (i : ℕ) × (i < size g) × (lower g i ≡ k)
  continued zero l = first (O.before 1 (omega arith) (omega (arith, H.wired.least)))
    where
      first : (j : ℕ) × (j < 1) × Joined st.cables (get_or (order st) 1 0) (get_or (order st) j 0) → (i : ℕ) × (i < size g) × (lower g i ≡ 0)
      first f =
          let g : (i : ℕ) × (i < size g) × (lower g i ≡ f.0) × (upper g i ≡ 1) = line_between_lem f.0 1 f.1 l f.2 in
          (g.0, g.1, omega (arith, g.2, f.1))
  continued (suc k) l = later (O.after (suc k) (omega arith) l)
    where
      later : (j : ℕ) × (suc k < j) × (j < st.parts) × Joined st.cables (get_or (order st) (suc k) 0) (get_or (order st) j 0)
          → (i : ℕ) × (i < size g) × (lower g i ≡ suc k)
      later f =
          let g : (i : ℕ) × (i < size g) × (lower g i ≡ suc k) × (upper g i ≡ f.0) =
          line_between_lem (suc k) f.0 f.1 f.2 (joined_sym st.cables f.3) in
          (g.0, g.1, g.2)

  -- A line with an end of rank k is a cable of its part.
  one_end : (k : ℕ) → k < st.parts → (i : ℕ) → i < length st.cables
      → one_if (eqb (lower g i) k) + one_if (eqb (upper g i) k) ≤ one_if (joins (get_or (order st) k 0) (cable_at st.cables i))
  unfolding joins
  one_end k l i m =
      rw (lower_is st i m, upper_is st i m)
      (ends_once (rank_in (order st) c.one) (rank_in (order st) c.other) k (eqb c.one p) (eqb c.other p)
      (ranks_apart i m) (is c.one (within H.wired i m).0) (is c.other (within H.wired i m).1))
    where
      c : Cable
      c = cable_at st.cables i

      p : ℕ
      p = get_or (order st) k 0

      is : (q : ℕ) → q < st.parts → rank_in (order st) q ≡ k → eqb q p ≡ true
      is q h e = eq-eqb q p (sym (part_of_rank q h) ∙ ap (λ (j : ℕ). get_or (order st) j 0) e)

  by_line : (p : ℕ) → degree st.cables p ≡ count (λ i. joins p (cable_at st.cables i)) (range (length st.cables))
  unfolding degree
  by_line p = count_places (joins p) st.cables no_cable

  four : (k : ℕ) → length (lines_at (size g) (lower g) k) + length (lines_at (size g) (upper g) k) ≤ most_degree
  unfolding lines_at
  four k = go (dec_lt k st.parts)
    where
      go : Dec (k < st.parts) → length (lines_at (size g) (lower g) k) + length (lines_at (size g) (upper g) k) ≤ most_degree
      go (yes l) =
          rw (graph_size st)
          (omega (
            arith,
            length_filter (λ i. eqb (lower g i) k) (range (length st.cables)),
            length_filter (λ i. eqb (upper g i) k) (range (length st.cables)),
            count_two (λ i. eqb (lower g i) k) (λ i. eqb (upper g i) k) (λ i. joins (get_or (order st) k 0) (cable_at st.cables i)) (length st.cables) (one_end k l),
            by_line (get_or (order st) k 0),
            H.wired.degrees (get_or (order st) k 0),
          ))
      go (no n) =
          omega (
            arith,
            length_filter (λ i. eqb (lower g i) k) (range (size g)),
            length_filter (λ i. eqb (upper g i) k) (range (size g)),
            count_none (λ i. eqb (lower g i) k) (size g) (λ i l. ne_eqb (lower g i) k (λ e. omega (arith, rises i l, inside i l))),
            count_none (λ i. eqb (upper g i) k) (size g) (λ i l. ne_eqb (upper g i) k (λ e. omega (arith, inside i l))),
          )

  pub order_ranked : Ranked (graph_of st)
  order_ranked = record {
    lines = graph_lines st;
    rises = rises;
    inside = λ i l. omega (arith, graph_parts st, inside i l);
    entered = λ k h l. entered k h (omega (arith, graph_parts st));
    continued = λ k l. continued k (omega (arith, graph_parts st));
    four = four;
  }
