-- The lines at a rank, the lowest line from one rank to another, and the lines at the bottom and at the top connection: the laws of the
-- definitions that name these, from which all else follows. Assumes nothing.
use Rattle.std.specs.Prelude.{Some, None}
use Prim.Native.Nat.{ℕ, ◌-◌, ◌<◌, ◌≤◌}
use native.Mathlib.Omega.{arith}
use native.Mathlib.Decide.{dec_lt}
use mathlib.Core.Path.{◌≡◌, refl, sym, ap, ◌∙◌}
use mathlib.Core.Logic.{◌⊎◌, inl, inr, ⊎_elim}
use mathlib.Core.Bool.{Bool, true, false, cond, ◌&&◌, false≢true}
use mathlib.Core.List.{Memᴰ}
use lib.ListN.{length}
use lib.Dec.{eqb}
use borrow.Author.Tests.{eqb-true, eq-eqb}
use Rattle.lists.specs.Search.{seek, place_or}
use Rattle.lists.specs.Select.{range}
use Rattle.lists.proofs.Bools.{and_e, and_i}
use Rattle.lists.proofs.Seek.{First, NoneOf, seek_cases}
use Rattle.lists.proofs.Select.{get_d_mem, filter_e, filter_i, range_e, range_i, Distinct, distinct_range, distinct_filter}
use Rattle.order.specs.Graph.{StGraph, size, lower, upper, lines_at}
use Rattle.order.specs.RankedGraphs.{Ranked}
use Rattle.order.proofs.Graphs.{second_joined, last_joined}
use Rattle.layout.specs.Columns.{line_between, bottom_line, top_line}

-- The lines at a rank

pub lines_at_e : {i : ℕ} (m : ℕ) (rank : ℕ → ℕ) (k : ℕ) → Memᴰ i (lines_at m rank k) → (i < m) × (rank i ≡ k)
unfolding lines_at
lines_at_e {i} m rank k h = let f = filter_e (λ j. eqb (rank j) k) (range m) h in (range_e m f.0, eqb-true (rank i) k f.1)

pub lines_at_i : (i m : ℕ) (rank : ℕ → ℕ) (k : ℕ) → i < m → rank i ≡ k → Memᴰ i (lines_at m rank k)
unfolding lines_at
lines_at_i i m rank k h e = filter_i (λ j. eqb (rank j) k) (range m) (range_i i m h) (eq-eqb (rank i) k e)

pub distinct_lines_at : (m : ℕ) (rank : ℕ → ℕ) (k : ℕ) → Distinct (lines_at m rank k)
unfolding lines_at
distinct_lines_at m rank k = distinct_filter (λ j. eqb (rank j) k) (range m) (distinct_range m)

-- What is set apart where there are four: it is a line only there, with what holds of it
pub set_apart : (P : ℕ → Type 0) (len x m : ℕ) → (x < m → P x) → cond (eqb len 4) x m < m → (len ≡ 4) × P (cond (eqb len 4) x m)
set_apart P len x m f h = go (eqb len 4) refl h
  where
    go : (b : Bool) → eqb len 4 ≡ b → cond b x m < m → (len ≡ 4) × P (cond b x m)
    go true e l = (eqb-true len 4 e, f l)
    go false e l = absurd (omega arith)

module _ (G : StGraph) where
  -- The lowest line from one rank to another: it is one, or there is none

  between : (j k : ℕ)
      → ((line_between G j k < size G) × (lower G (line_between G j k) ≡ j) × (upper G (line_between G j k) ≡ k))
      ⊎ ((line_between G j k ≡ size G) × ((i : ℕ) → i < size G → lower G i ≡ j → upper G i ≡ k → ⊥))
  unfolding line_between
  between j k = go (seek_cases test 0 (size G))
    where
      test : ℕ → Bool
      test i = eqb (lower G i) j && eqb (upper G i) k

      line : ℕ
      line = place_or (size G) (seek test 0 (size G))

      go : ((x : ℕ) × (seek test 0 (size G) ≡ Some x) × First test 0 (size G) x) ⊎ ((seek test 0 (size G) ≡ None) × NoneOf test 0 (size G))
          → ((line < size G) × (lower G line ≡ j) × (upper G line ≡ k)) ⊎ ((line ≡ size G) × ((i : ℕ) → i < size G → lower G i ≡ j → upper G i ≡ k → ⊥))
      go (inl f) =
          let e : line ≡ f.0 = ap (place_or (size G)) f.1 in
          let p = and_e (eqb (lower G f.0) j) (eqb (upper G f.0) k) f.2.passes in
          inl (omega (arith, e, f.2.below), ap (lower G) e ∙ eqb-true (lower G f.0) j p.0, ap (upper G) e ∙ eqb-true (upper G f.0) k p.1)
      go (inr f) = inr (
        ap (place_or (size G)) f.0,
        λ i h a b. false≢true (sym (f.1 i (omega arith) (omega arith)) ∙ and_i _ _ (eq-eqb (lower G i) j a) (eq-eqb (upper G i) k b)),
      )

  pub between_ends : (j k : ℕ) → line_between G j k < size G → (lower G (line_between G j k) ≡ j) × (upper G (line_between G j k) ≡ k)
  between_ends j k h = ⊎_elim (λ f. (f.1, f.2)) (λ f. absurd (omega (arith, f.0))) (between j k)

  between_some : (j k i : ℕ) → i < size G → lower G i ≡ j → upper G i ≡ k → line_between G j k < size G
  between_some j k i h e f = ⊎_elim (λ q. q.0) (λ q. absurd (q.1 i h e f)) (between j k)

  -- no lower line goes from the one to the other
  pub between_lowest : (j k i : ℕ) → i < size G → lower G i ≡ j → upper G i ≡ k → line_between G j k ≤ i
  unfolding line_between
  between_lowest j k i h a b = go (seek_cases test 0 (size G))
    where
      test : ℕ → Bool
      test l = eqb (lower G l) j && eqb (upper G l) k

      passes : test i ≡ true
      passes = and_i _ _ (eq-eqb (lower G i) j a) (eq-eqb (upper G i) k b)

      below : (x : ℕ) → place_or (size G) (seek test 0 (size G)) ≡ x → First test 0 (size G) x → Dec (i < x) → place_or (size G) (seek test 0 (size G)) ≤ i
      below x e f (yes l) = absurd (false≢true (sym (f.none i (omega arith) l) ∙ passes))
      below x e f (no l) = omega arith

      go : ((x : ℕ) × (seek test 0 (size G) ≡ Some x) × First test 0 (size G) x) ⊎ ((seek test 0 (size G) ≡ None) × NoneOf test 0 (size G))
          → place_or (size G) (seek test 0 (size G)) ≤ i
      go (inl f) = below f.0 (ap (place_or (size G)) f.1) f.2 (dec_lt i f.0)
      go (inr f) = absurd (false≢true (sym (f.1 i (omega arith) (omega arith)) ∙ passes))

  -- The bottom and the top connection

  -- the bottom connection is a line only where s has four cables, and goes to rank 1
  pub bottom_ends : bottom_line G < size G → (length (lines_at (size G) (lower G) 0) ≡ 4) × (lower G (bottom_line G) ≡ 0) × (upper G (bottom_line G) ≡ 1)
  unfolding bottom_line
  bottom_ends h =
      let r = set_apart (λ x. (lower G x ≡ 0) × (upper G x ≡ 1)) (length (lines_at (size G) (lower G) 0)) (line_between G 0 1) (size G) (between_ends 0 1) h in
      (r.0, r.1.0, r.1.1)

  -- the top connection only where t has, and comes from rank n - 2
  pub top_ends :
      top_line G < size G
      → (length (lines_at (size G) (upper G) (G.parts - 1)) ≡ 4) × (lower G (top_line G) ≡ G.parts - 2) × (upper G (top_line G) ≡ G.parts - 1)
  unfolding top_line
  top_ends h =
      let r =
      set_apart (λ x. (lower G x ≡ G.parts - 2) × (upper G x ≡ G.parts - 1)) (length (lines_at (size G) (upper G) (G.parts - 1)))
      (line_between G (G.parts - 2) (G.parts - 1)) (size G) (between_ends (G.parts - 2) (G.parts - 1)) h in
      (r.0, r.1.0, r.1.1)

  module _ (R : Ranked G) where
    -- The connections are there exactly where s and t have four cables

    pub bottom_some : length (lines_at (size G) (lower G) 0) ≡ 4 → bottom_line G < size G
    unfolding bottom_line
    bottom_some e =
        let a = lines_at_e (size G) (lower G) 0 (get_d_mem (lines_at (size G) (lower G) 0) 0 0 (omega arith)) in
        let c = second_joined G R (omega (arith, R.rises _ a.0, R.inside _ a.0)) in
        rw (eq-eqb _ 4 e) (between_some 0 1 c.0 c.1 c.2 c.3)

    pub top_some : length (lines_at (size G) (upper G) (G.parts - 1)) ≡ 4 → top_line G < size G
    unfolding top_line
    top_some e =
        let a = lines_at_e (size G) (upper G) (G.parts - 1) (get_d_mem (lines_at (size G) (upper G) (G.parts - 1)) 0 0 (omega arith)) in
        let c = last_joined G R (omega (arith, R.rises _ a.0, R.inside _ a.0)) in
        rw (eq-eqb _ 4 e) (between_some (G.parts - 2) (G.parts - 1) c.0 c.1 c.2 c.3)
