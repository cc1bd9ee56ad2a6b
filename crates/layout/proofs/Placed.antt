-- The layout's definition establishes the facts of `Facts`, from `Ranked` alone: the lanes of each cable, and the invariant once all ranks
-- stand. Assumes nothing.
use Prim.Native.Nat.{ℕ, suc, ◌+◌, ◌-◌, ◌<◌, ◌≤◌}
use native.Mathlib.Omega.{arith}
use native.Mathlib.Decide.{dec_lt, ℕ_discrete}
use mathlib.Core.Path.{◌≡◌, refl, sym, ap, ap₂, ◌∙◌}
use mathlib.Core.Logic.{◌⊎◌, inl, inr}
use mathlib.Core.Bool.{cond}
use lib.Dec.{eqb}
use borrow.Author.Tests.{eq-eqb, ne_eqb}
use Rattle.lists.specs.Select.{index_of}
use Rattle.order.specs.Graph.{StGraph, size, lower, upper}
use Rattle.order.specs.RankedGraphs.{Ranked}
use Rattle.order.proofs.Graphs.{lower_inside}
use Rattle.layout.specs.Columns.{bottom_line, top_line, incoming, columns}
use Rattle.layout.specs.Points as points
use Rattle.layout.specs.Points.{part_spot, course, rank_spot, course_of}
use Rattle.layout.proofs.Facts.{Facts}
use Rattle.layout.proofs.Step.{out_place_below, out_place_one, in_place_below, in_place_one}
use Rattle.layout.proofs.Step as step
use Rattle.layout.proofs.ExtraRows.{bottom_row, bottom_place, place_bottom, top_place, place_top}
use Rattle.layout.proofs.Invariant.{Leaves, Enters, Meets, Passes, by, bottom, top, Invariant, invariant, outs_ins, fourth}

-- what a test of equality picks
pick : (a b u v : ℕ) → ((a ≡ b) × (cond (eqb a b) u v ≡ u)) ⊎ ((a ≡ b → ⊥) × (cond (eqb a b) u v ≡ v))
pick a b u v = go (ℕ_discrete a b)
  where
    go : Dec (a ≡ b) → ((a ≡ b) × (cond (eqb a b) u v ≡ u)) ⊎ ((a ≡ b → ⊥) × (cond (eqb a b) u v ≡ v))
    go (yes e) = inl (e, rw (eq-eqb a b e))
    go (no e) = inr (e, rw (ne_eqb a b e))

module _ (G : StGraph) where
  -- the rows, the places of cables among the outgoing and the incoming ones of a rank, and the lanes
  abbrev pub row : ℕ → ℕ
  row = points.row G

  abbrev pub out_place : ℕ → ℕ → ℕ
  out_place = step.out_place G

  abbrev pub in_place : ℕ → ℕ → ℕ
  in_place = step.in_place G

  abbrev pub low : ℕ → ℕ
  low i = (course_of G i).low

  abbrev pub high : ℕ → ℕ
  high i = (course_of G i).high

  -- the lower lane: below row 0 for the bottom connection, else the part's row
  pub data Low (i : ℕ) : Type 0 where
    dips : lower G i ≡ 0 → out_place (lower G i) i ≡ 3 → low i < row 0 → Low i
    leaves : out_place (lower G i) i < 3 → low i ≡ row (lower G i) → Low i

  -- the upper lane: above row n - 1 for the top connection, else the part's row
  pub data High (i : ℕ) : Type 0 where
    climbs : suc (upper G i) ≡ G.parts → in_place (upper G i) i ≡ 3 → high i ≡ row G.parts → High i
    enters : in_place (upper G i) i < 3 → high i ≡ row (upper G i) → High i

  pub row_less : (j k : ℕ) → j < k → row j < row k
  unfolding points.row
  row_less j k h = omega arith

  row_back : (j k : ℕ) → row j < row k → j < k
  unfolding points.row
  row_back j k h = omega arith

  row_one : (j k : ℕ) → row j ≡ row k → j ≡ k
  unfolding points.row
  row_one j k h = omega arith

  module _ (R : Ranked G) where
    -- an outgoing cable that is not the bottom connection is one of the first three
    leaves_three : (i : ℕ) → i < size G → (i ≡ bottom_line G → ⊥) → out_place (lower G i) i < 3
    unfolding step.out_place
    leaves_three i h d = go (ℕ_discrete (out_place (lower G i) i) 3)
      where
        go : Dec (out_place (lower G i) i ≡ 3) → out_place (lower G i) i < 3
        go (yes q) =
            let e : lower G i ≡ 0 = (fourth G R (lower G i) (lower_inside G R i h) i h refl q).0 in
            absurd (d (place_bottom G R i h e (sym (ap (λ (r : ℕ). out_place r i) e) ∙ q)))
        go (no q) = omega (arith, out_place_below G (lower G i) i h refl, outs_ins G R (lower G i) (lower_inside G R i h))

    pub low_of : (i : ℕ) → i < size G → Low i
    unfolding course_of course step.out_place points.row
    low_of i h = go (pick i (bottom_line G) 0 (row (lower G i)))
      where
        go : ((i ≡ bottom_line G) × (low i ≡ 0)) ⊎ ((i ≡ bottom_line G → ⊥) × (low i ≡ row (lower G i))) → Low i
        go (inl c) =
            let b : bottom_line G < size G = omega arith in
            let p = bottom_place G R b in
            let e : lower G i ≡ 0 = ap (lower G) c.0 ∙ p.0 in
            dips e (ap₂ out_place e c.0 ∙ p.1) (omega (arith, bottom_row G R b, c.1))
        go (inr c) = leaves (leaves_three i h c.0) c.1

    enters_three : (i : ℕ) → i < size G → (suc (upper G i) ≡ G.parts → in_place (upper G i) i ≡ 3 → ⊥) → in_place (upper G i) i < 3
    enters_three i h d = go (ℕ_discrete (suc (upper G i)) G.parts)
      where
        four : step.outs G (upper G i) + step.ins G (upper G i) ≤ 4
        four = outs_ins G R (upper G i) (R.inside i h)

        go : Dec (suc (upper G i) ≡ G.parts) → in_place (upper G i) i < 3
        go (yes e) =
            let q : in_place (upper G i) i ≡ 3 → ⊥ = d e in
            omega (arith, in_place_below G (upper G i) i h refl, four)
        go (no e) =
            let c = R.continued (upper G i) (omega (arith, R.inside i h)) in
            omega (arith, in_place_below G (upper G i) i h refl, four, out_place_below G (upper G i) c.0 c.1 c.2)

    pub high_of : (i : ℕ) → i < size G → High i
    unfolding course_of course step.in_place
    high_of i h = go (pick i (top_line G) (row G.parts) (row (upper G i)))
      where
        last_place : (j : ℕ) → suc (upper G i) ≡ G.parts → index_of j (incoming G (columns G (upper G i)).cables (G.parts - 1)) ≡ in_place (upper G i) j
        last_place j e =
            let q : G.parts - 1 ≡ upper G i = omega arith in
            ap (λ (r : ℕ). index_of j (incoming G (columns G (upper G i)).cables r)) q

        go : ((i ≡ top_line G) × (high i ≡ row G.parts)) ⊎ ((i ≡ top_line G → ⊥) × (high i ≡ row (upper G i))) → High i
        go (inl c) =
            let p = top_place G R (columns G (upper G i)).cables (omega arith) in
            let f : upper G i ≡ G.parts - 1 = ap (upper G) c.0 ∙ p.0 in
            let e : suc (upper G i) ≡ G.parts = omega (arith, R.inside i h) in
            climbs e (ap (in_place (upper G i)) c.0 ∙ sym (last_place (top_line G) e) ∙ p.1) c.1
        go (inr c) = enters (enters_three i h (λ e q. c.0 (place_top G R (columns G (upper G i)).cables i h (omega arith) (last_place i e ∙ q)))) c.1

    -- What the lanes say of ranks

    low_leaves : (i k : ℕ) → i < size G → low i ≡ row k → Leaves G i k
    low_leaves i k h e = go (low_of i h)
      where
        go : Low i → Leaves G i k
        go (dips a b c) = absurd (omega (arith, row_back k 0 (omega arith)))
        go (leaves a b) =
            let f : lower G i ≡ k = row_one (lower G i) k (sym b ∙ e) in
            (f, omega (arith, ap (λ (r : ℕ). out_place r i) f))

    high_enters : (i k : ℕ) → i < size G → k < G.parts → high i ≡ row k → Enters G i k
    high_enters i k h l e = go (high_of i h)
      where
        go : High i → Enters G i k
        go (climbs a b c) = absurd (omega (arith, row_less k G.parts l))
        go (enters a b) =
            let f : upper G i ≡ k = row_one (upper G i) k (sym b ∙ e) in
            (f, omega (arith, ap (λ (r : ℕ). in_place r i) f))

    meets : (i k : ℕ) → i < size G → k < G.parts → (low i ≡ row k) ⊎ (high i ≡ row k) → Meets G i k
    meets i k h l (inl e) = inl (low_leaves i k h e)
    meets i k h l (inr e) = inr (high_enters i k h l e)

    passes_row : (i k : ℕ) → i < size G → k < G.parts → low i < row k → row k < high i → Passes G i k
    passes_row i k h l s t = go (dec_lt (lower G i) k) (dec_lt k (upper G i))
      where
        below : (lower G i < k → ⊥) → Low i → Passes G i k
        below d (dips a b c) =
            let f : lower G i ≡ k = omega arith in
            bottom f (sym (ap (λ (r : ℕ). out_place r i) f) ∙ b)
        below d (leaves a b) = absurd (d (row_back (lower G i) k (omega arith)))

        above : (k < upper G i → ⊥) → High i → Passes G i k
        above d (climbs a b c) =
            let f : upper G i ≡ k = omega arith in
            top f (sym (ap (λ (r : ℕ). in_place r i) f) ∙ b)
        above d (enters a b) = absurd (d (row_back k (upper G i) (omega arith)))

        go : Dec (lower G i < k) → Dec (k < upper G i) → Passes G i k
        go (yes a) (yes b) = by a b
        go (yes a) (no b) = above b (high_of i h)
        go (no a) d = below a (low_of i h)

    -- lanes that overlap: the ranks between do
    overlap : (i j : ℕ) → i < size G → j < size G → low i < high j → lower G i < upper G j
    overlap i j h g l = go (low_of i h) (high_of j g)
      where
        go : Low i → High j → lower G i < upper G j
        go (dips a b c) d = omega (arith, R.rises j g)
        go (leaves a b) (climbs c d e) = omega (arith, R.rises i h, R.inside i h)
        go (leaves a b) (enters c d) = row_back (lower G i) (upper G j) (omega arith)

    low_le : (i : ℕ) → i < size G → low i ≤ row (lower G i)
    low_le i h = go (low_of i h)
      where
        go : Low i → low i ≤ row (lower G i)
        go (dips a b c) = omega (arith, ap row a)
        go (leaves a b) = omega arith

    high_ge : (i : ℕ) → i < size G → row (upper G i) ≤ high i
    high_ge i h = go (high_of i h)
      where
        go : High i → row (upper G i) ≤ high i
        go (climbs a b c) = omega (arith, row_less (upper G i) G.parts (R.inside i h))
        go (enters a b) = omega arith

    bottom_only : (i : ℕ) → i < size G → low i < row (lower G i) → (lower G i ≡ 0) × (out_place 0 i ≡ 3)
    bottom_only i h l = go (low_of i h)
      where
        go : Low i → (lower G i ≡ 0) × (out_place 0 i ≡ 3)
        go (dips a b c) = (a, sym (ap (λ (r : ℕ). out_place r i) a) ∙ b)
        go (leaves a b) = absurd (omega arith)

    top_only : (i : ℕ) → i < size G → row (upper G i) < high i → (suc (upper G i) ≡ G.parts) × (in_place (upper G i) i ≡ 3)
    top_only i h l = go (high_of i h)
      where
        go : High i → (suc (upper G i) ≡ G.parts) × (in_place (upper G i) i ≡ 3)
        go (climbs a b c) = (a, b)
        go (enters a b) = absurd (omega arith)

    one_bottom : (i j : ℕ) → i < size G → j < size G → low i < row (lower G i) → low j < row (lower G j) → i ≡ j
    one_bottom i j h g s t =
        let a = bottom_only i h s in
        let b = bottom_only j g t in
        out_place_one G 0 i j h g a.0 b.0 (a.1 ∙ sym b.1)

    one_top : (i j : ℕ) → i < size G → j < size G → row (upper G i) < high i → row (upper G j) < high j → i ≡ j
    one_top i j h g s t =
        let a = top_only i h s in
        let b = top_only j g t in
        let e : upper G j ≡ upper G i = omega arith in
        in_place_one G (upper G i) i j h g refl e (a.1 ∙ sym b.1 ∙ ap (λ (r : ℕ). in_place r j) e)

    complete : Invariant G G.parts
    complete = invariant G R G.parts (omega arith)

    pub facts :
        Facts G (λ i. (course_of G i).column) (λ i. (course_of G i).low) (λ i. (course_of G i).high)
        (λ k. (rank_spot G k).x) (points.row G)
    unfolding course_of course rank_spot part_spot step.cable step.part
    facts = record {
      rises = R.rises;
      inside = R.inside;
      rows = λ j k h g. row_less j k h;
      lo_le = low_le;
      hi_ge = high_ge;
      dip = λ i h l. (bottom_only i h l).0;
      climb = λ i h l. (top_only i h l).0;
      one_dip = one_bottom;
      one_climb = one_top;
      lanes = λ i j h g d a b. complete.apart i j h g d (lower_inside G R i h) (lower_inside G R j g) (overlap i j h g a) (overlap j i g h b);
      passes = λ i k h l a b. (complete.stands k l).passes i h (passes_row i k h l a b);
      left = λ i j k h g l d a b. (complete.stands k l).left i j h g d (meets i k h l a) (meets j k g l b);
      right = λ i j k h g l d a b. (complete.stands k l).right i j h g d (meets i k h l a) (meets j k g l b);
      free_left = λ i j k h g l d a b c. (complete.stands k l).free_left i j h g (low_leaves i k h a) (passes_row j k g l b c);
      free_right = λ i j k h g l d a b c. (complete.stands k l).free_right i j h g (low_leaves i k h a) (passes_row j k g l b c);
    }
