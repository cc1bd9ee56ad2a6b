-- The bottom and the top connection as the code finds them: where a rank has four cables the one set apart is put last, where it has fewer
-- the sorted lines are the outgoing or the incoming cables as they stand. The fourth of an end's cables is its connection, a line exactly
-- where there are four. Assumes nothing.
use Rattle.std.specs.Prelude.{Option, Some, None, unwrap_or}
use Prim.Native.Nat.{ℕ, ◌-◌, ◌<◌, ◌≤◌}
use native.Mathlib.Omega.{arith}
use native.Mathlib.Decide.{dec_lt, ℕ_discrete}
use mathlib.Core.Path.{◌≡◌, refl, sym, ap, ap₂, ◌∙◌}
use mathlib.Core.Bool.{cond, ◌&&◌}
use mathlib.Core.List.{List, Memᴰ}
use lib.ListN.{length, get_or, take, get_or-eq_default}
use lib.Dec.{eqb, ltb}
use borrow.Author.Tests.{eq-eqb, ne_eqb, lt-ltb, le-ltb}
use Rattle.lists.specs.Search.{seek, place_or}
use Rattle.lists.specs.Select.{lastly, index_of, sort_by, one_if}
use Rattle.lists.proofs.Filters.{seek_same}
use Rattle.lists.proofs.Select.{get_d_index_of}
use Rattle.lists.proofs.Sort.{sort_by_e}
use Rattle.lists.proofs.Lastly.{lastly_absent}
use Rattle.ranking.specs.declared.graph.Span.{Span}
use Rattle.ranking.specs.declared.graph.Graph.{Graph}
use Rattle.ranking.specs.Arrays.{graph_in}
use Rattle.ranking.proofs.GraphArrays.{no_span, span_at, lent_count, lent_lower, lent_upper}
use Rattle.order.specs.Graph.{StGraph, size, lower, upper, lines_at}
use Rattle.order.specs.RankedGraphs.{Ranked}
use Rattle.layout.specs.Columns.{line_between, bottom_line, top_line, by_rank, by_column, outgoing, incoming}
use Rattle.layout.specs.Points.{bottom_rows, top_rows}
use Rattle.layout.proofs.EndLines.{lines_at_e, set_apart, between_ends, bottom_ends, bottom_some, top_ends, top_some}
use Rattle.layout.proofs.Step.{outgoing_i, length_outgoing, incoming_i, length_incoming}
use Rattle.layout.proofs.ExtraRows.{bottom_place, top_place}

-- The sorted lines at rank k, where x is a line at rank r, or none, and is set apart where rank r has four
module _ (m : ℕ) (key rank : ℕ → ℕ) (r x : ℕ) (there : x < m → rank x ≡ r) (k : ℕ) where
  abbrev sorted : List ℕ
  sorted = sort_by key (lines_at m rank k)

  abbrev apart : ℕ
  apart = cond (eqb (length (lines_at m rank r)) 4) x m

  within : {i : ℕ} → Memᴰ i sorted → (i < m) × (rank i ≡ k)
  within h = lines_at_e m rank k (sort_by_e key (lines_at m rank k) h)

  as_many : k ≡ r → length (lines_at m rank k) ≡ length (lines_at m rank r)
  as_many e = ap (λ (j : ℕ). length (lines_at m rank j)) e

  -- at another rank none is
  elsewhere : (y : ℕ) → (y < m → rank y ≡ r) → (k ≡ r → ⊥) → lastly y sorted ≡ sorted
  elsewhere y f n = lastly_absent y sorted (λ h. let w = within h in n (sym w.1 ∙ f w.0))

  apart_there : apart < m → rank apart ≡ r
  apart_there h = (set_apart (λ y. rank y ≡ r) (length (lines_at m rank r)) x m there h).1

  apart_few : (length (lines_at m rank k) ≡ 4 → ⊥) → lastly apart sorted ≡ sorted
  apart_few n = go (ℕ_discrete k r)
    where
      go : Dec (k ≡ r) → lastly apart sorted ≡ sorted
      go (yes e) = rw (ne_eqb _ 4 (λ q. n (as_many e ∙ q))) (lastly_absent m sorted (λ h. omega (arith, (within h).0)))
      go (no e) = elsewhere apart apart_there e

  apart_four : length (lines_at m rank k) ≡ 4 → lastly apart sorted ≡ lastly x sorted
  apart_four f = go (ℕ_discrete k r)
    where
      go : Dec (k ≡ r) → lastly apart sorted ≡ lastly x sorted
      go (yes e) = rw (eq-eqb _ 4 (sym (as_many e) ∙ f)) refl
      go (no e) = elsewhere apart apart_there e ∙ sym (elsewhere x there e)

-- one if there are four, told from whether a line is there
four_there : (n x m : ℕ) → (n ≡ 4 → x < m) → (x < m → n ≡ 4) → one_if (eqb n 4) ≡ one_if (ltb x m)
four_there n x m f g = go (dec_lt x m)
  where
    go : Dec (x < m) → one_if (eqb n 4) ≡ one_if (ltb x m)
    go (yes l) = rw (lt-ltb x m l, eq-eqb n 4 (g l))
    go (no l) = rw (le-ltb x m (omega arith), ne_eqb n 4 (λ e. l (f e)))

-- the fourth of a list: what is last where there are four
fourth : (l : List ℕ) (x m n : ℕ) → length l ≡ n → n ≤ 4 → (n ≡ 4 → Memᴰ x l × (index_of x l ≡ 3)) → ((n ≡ 4 → ⊥) → x ≡ m) → get_or l 3 m ≡ x
fourth l x m n e b f g = go (ℕ_discrete n 4)
  where
    go : Dec (n ≡ 4) → get_or l 3 m ≡ x
    go (yes q) = let t = f q in ap (λ (j : ℕ). get_or l j m) (sym t.1) ∙ get_d_index_of l m t.0
    go (no q) = get_or-eq_default l m {n = 3} (omega arith) ∙ sym (g q)

-- a search along the cables of a graph finds the lowest line from one rank to another
pub between_found :
    (g : Graph) (j k : ℕ) {cables : List Span} {f : Option ℕ} {r : ℕ} → cables ≡ take g.cables g.spans → r ≡ unwrap_or f (length cables)
    → f ≡ seek (λ i. eqb (get_or cables i no_span).lower.0 j && eqb (get_or cables i no_span).upper.0 k) 0 (length cables) → r ≡ line_between (graph_in g) j k
unfolding line_between
between_found g j k {cables} {f} {r} e q s = q ∙ ap₂ unwrap_or (s ∙ found) count ∙ same (seek (λ i. eqb (lower G i) j && eqb (upper G i) k) 0 (size G))
  where
    G : StGraph
    G = graph_in g

    count : length cables ≡ size G
    count = ap length e ∙ lent_count g

    found : seek (λ i. eqb (span_at cables i).lower.0 j && eqb (span_at cables i).upper.0 k) 0 (length cables) ≡ seek (λ i. eqb (lower G i) j && eqb (upper G i) k) 0 (size G)
    found =
        rw (e, lent_count g)
        (seek_same _ _ 0 (size G)
        (λ i l h. ap₂ (λ (a b : ℕ). eqb a j && eqb b k) (lent_lower g i (omega arith)) (lent_upper g i (omega arith))))

    same : (o : Option ℕ) → unwrap_or o (size G) ≡ place_or (size G) o
    same None = refl
    same (Some i) = refl

module _ (G : StGraph) where
  pub outgoing_few : (k : ℕ) → (length (lines_at (size G) (lower G) k) ≡ 4 → ⊥) → outgoing G k ≡ by_rank G k
  unfolding outgoing by_rank bottom_line
  outgoing_few k n = apart_few (size G) (upper G) (lower G) 0 (line_between G 0 1) (λ h. (between_ends G 0 1 h).0) k n

  pub outgoing_four :
      (k : ℕ) → length (lines_at (size G) (lower G) k) ≡ 4 → outgoing G k ≡ lastly (line_between G 0 1) (by_rank G k)
  unfolding outgoing by_rank bottom_line
  outgoing_four k e = apart_four (size G) (upper G) (lower G) 0 (line_between G 0 1) (λ h. (between_ends G 0 1 h).0) k e

  module _ (xs : List ℕ) (k : ℕ) where
    pub incoming_few :
        (length (lines_at (size G) (upper G) k) ≡ 4 → ⊥) → incoming G xs k ≡ by_column G xs k
    unfolding incoming by_column top_line
    incoming_few n =
        apart_few (size G) (λ i. get_or xs i 0) (upper G) (G.parts - 1) (line_between G (G.parts - 2) (G.parts - 1))
        (λ h. (between_ends G (G.parts - 2) (G.parts - 1) h).1) k n

    pub incoming_four :
        length (lines_at (size G) (upper G) k) ≡ 4
        → incoming G xs k ≡ lastly (line_between G (G.parts - 2) (G.parts - 1)) (by_column G xs k)
    unfolding incoming by_column top_line
    incoming_four e =
        apart_four (size G) (λ i. get_or xs i 0) (upper G) (G.parts - 1) (line_between G (G.parts - 2) (G.parts - 1))
        (λ h. (between_ends G (G.parts - 2) (G.parts - 1) h).1) k e

  bottom_none : (length (lines_at (size G) (lower G) 0) ≡ 4 → ⊥) → bottom_line G ≡ size G
  unfolding bottom_line
  bottom_none n = rw (ne_eqb _ 4 n) refl

  top_none : (length (lines_at (size G) (upper G) (G.parts - 1)) ≡ 4 → ⊥) → top_line G ≡ size G
  unfolding top_line
  top_none n = rw (ne_eqb _ 4 n) refl

  module _ (R : Ranked G) where
    pub bottom_fourth : get_or (outgoing G 0) 3 (size G) ≡ bottom_line G
    bottom_fourth =
        fourth (outgoing G 0) (bottom_line G) (size G) _ (length_outgoing G 0) (omega (arith, R.four 0))
        (λ e. let h = bottom_some G R e in (outgoing_i G (bottom_line G) 0 h (bottom_ends G h).1, (bottom_place G R h).1)) bottom_none

    pub bottom_rows_lem : bottom_rows G ≡ one_if (ltb (bottom_line G) (size G))
    unfolding bottom_rows
    bottom_rows_lem = four_there _ (bottom_line G) (size G) (bottom_some G R) (λ h. (bottom_ends G h).0)

    pub top_fourth : (xs : List ℕ) → get_or (incoming G xs (G.parts - 1)) 3 (size G) ≡ top_line G
    top_fourth xs =
        fourth (incoming G xs (G.parts - 1)) (top_line G) (size G) _ (length_incoming G xs (G.parts - 1)) (omega (arith, R.four (G.parts - 1)))
        (λ e. let h = top_some G R e in (incoming_i G xs (top_line G) (G.parts - 1) h (top_ends G h).2, (top_place G R xs h).1)) top_none

    pub top_rows_lem : top_rows G ≡ one_if (ltb (top_line G) (size G))
    unfolding top_rows
    top_rows_lem = four_there _ (top_line G) (size G) (top_some G R) (λ h. (top_ends G h).0)
