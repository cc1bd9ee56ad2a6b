-- The two extra rows and the cables that turn in them: there is a bottom connection exactly if s has four cables, and only one; the same
-- for the top connection and t. Assumes nothing.
use Prim.Native.Nat.{ℕ, ◌-◌, ◌<◌, ◌≤◌}
use mathlib.Core.Path.{◌≡◌, refl, sym, ◌∙◌}
use mathlib.Core.Bool.{Bool, true, false, cond}
use mathlib.Core.List.{List}
use native.Mathlib.Omega.{arith}
use native.Mathlib.Decide.{ℕ_discrete}
use lib.Dec.{eqb}
use lib.ListN.{length}
use borrow.Author.Tests.{eqb-true, eq-eqb, ne_eqb}
use Rattle.lists.specs.Select.{range, count, index_of, one_if}
use Rattle.lists.proofs.Select.{index_of_below, index_of_one}
use Rattle.lists.proofs.Tests.{one_if_le}
use Rattle.lists.proofs.Sums.{count_none, count_one}
use Rattle.order.specs.Graph.{StGraph, size, lower, upper, lines_at}
use Rattle.order.specs.RankedGraphs.{Ranked}
use Rattle.layout.specs.Columns.{bottom_line, top_line, outgoing, incoming}
use Rattle.layout.specs.Points.{bottom_rows, top_rows}
use Rattle.layout.proofs.EndLines.{bottom_ends, bottom_some, top_ends, top_some}
use Rattle.layout.proofs.Step.{outgoing_i, length_outgoing, incoming_i, length_incoming, bottom_last, top_last}
use Rattle.layout.proofs.Turns.{differs}

-- below m there is one number x, or none, as there are four or not
count_four : (m x len : ℕ) → (len ≡ 4 → x < m) → (x < m → len ≡ 4) → count (λ i. eqb i x) (range m) ≡ one_if (eqb len 4)
count_four m x len f g = go (ℕ_discrete len 4)
  where
    go : Dec (len ≡ 4) → count (λ i. eqb i x) (range m) ≡ one_if (eqb len 4)
    go (yes l) = count_one (λ i. eqb i x) m x (f l) (eq-eqb x x refl) (λ j k q. eqb-true j x q) ∙ rw (eq-eqb len 4 l) refl
    go (no l) = count_none (λ i. eqb i x) m (λ i k. ne_eqb i x (λ e. l (g (omega arith)))) ∙ rw (ne_eqb len 4 l) refl

four_row : (len : ℕ) → len ≡ 4 → one_if (eqb len 4) ≡ 1
four_row len e = rw (eq-eqb len 4 e) refl

row_four : (len : ℕ) → one_if (eqb len 4) ≡ 1 → len ≡ 4
row_four len e = go (eqb len 4) refl e
  where
    go : (b : Bool) → eqb len 4 ≡ b → one_if b ≡ 1 → len ≡ 4
    go true q f = eqb-true len 4 q
    go false q f = absurd (omega arith)

-- a row more than another, or the same row, as a test says
pub differs_lane : (b : Bool) (u v : ℕ) → (b ≡ true → u ≡ v → ⊥) → differs (cond b u v) v ≡ one_if b
differs_lane true u v n = rw (ne_eqb u v (n refl)) refl
differs_lane false u v n = rw (eq-eqb v v refl) refl

module _ (G : StGraph) (H : Ranked G) where
  pub bottom_rows_le : bottom_rows G ≤ 1
  unfolding bottom_rows
  bottom_rows_le = one_if_le (eqb (length (lines_at (size G) (lower G) 0)) 4)

  pub top_rows_le : top_rows G ≤ 1
  unfolding top_rows
  top_rows_le = one_if_le (eqb (length (lines_at (size G) (upper G) (G.parts - 1))) 4)

  -- as many bottom connections as rows below s, and as many top connections as rows above t

  pub bottom_count : count (λ i. eqb i (bottom_line G)) (range (size G)) ≡ bottom_rows G
  unfolding bottom_rows
  bottom_count = count_four (size G) (bottom_line G) (length (lines_at (size G) (lower G) 0)) (bottom_some G H) (λ h. (bottom_ends G h).0)

  pub top_count : count (λ i. eqb i (top_line G)) (range (size G)) ≡ top_rows G
  unfolding top_rows
  top_count = count_four (size G) (top_line G) (length (lines_at (size G) (upper G) (G.parts - 1))) (top_some G H) (λ h. (top_ends G h).0)

  -- Where there is a bottom connection there is a row below s, and it is the fourth of the outgoing cables; the same for a top connection
  -- and t.

  pub bottom_row : bottom_line G < size G → bottom_rows G ≡ 1
  unfolding bottom_rows
  bottom_row h = four_row (length (lines_at (size G) (lower G) 0)) (bottom_ends G h).0

  pub top_row : top_line G < size G → top_rows G ≡ 1
  unfolding top_rows
  top_row h = four_row (length (lines_at (size G) (upper G) (G.parts - 1))) (top_ends G h).0

  pub row_top : top_rows G ≡ 1 → top_line G < size G
  unfolding top_rows
  row_top e = top_some G H (row_four (length (lines_at (size G) (upper G) (G.parts - 1))) e)

  pub bottom_place : bottom_line G < size G → (lower G (bottom_line G) ≡ 0) × (index_of (bottom_line G) (outgoing G 0) ≡ 3)
  bottom_place h = let b = bottom_ends G h in (b.1, omega (arith, bottom_last G h, b.0))

  pub top_place : (xs : List ℕ) → top_line G < size G → (upper G (top_line G) ≡ G.parts - 1) × (index_of (top_line G) (incoming G xs (G.parts - 1)) ≡ 3)
  top_place xs h = let t = top_ends G h in (t.2, omega (arith, top_last G xs h, t.0))

  -- and no other cable is the fourth
  pub place_bottom : (i : ℕ) → i < size G → lower G i ≡ 0 → index_of i (outgoing G 0) ≡ 3 → i ≡ bottom_line G
  place_bottom i h e q =
      let m = outgoing_i G i 0 h e in
      let b = bottom_some G H (omega (arith, index_of_below (outgoing G 0) m, length_outgoing G 0, H.four 0)) in
      index_of_one (outgoing G 0) m (outgoing_i G (bottom_line G) 0 b (bottom_ends G b).1) (q ∙ sym (bottom_place b).1)

  pub place_top : (xs : List ℕ) (i : ℕ) → i < size G → upper G i ≡ G.parts - 1 → index_of i (incoming G xs (G.parts - 1)) ≡ 3 → i ≡ top_line G
  place_top xs i h e q =
      let m = incoming_i G xs i (G.parts - 1) h e in
      let t = top_some G H (omega (arith, index_of_below (incoming G xs (G.parts - 1)) m, length_incoming G xs (G.parts - 1), H.four (G.parts - 1))) in
      index_of_one (incoming G xs (G.parts - 1)) m (incoming_i G xs (top_line G) (G.parts - 1) t (top_ends G t).2) (q ∙ sym (top_place xs t).1)
