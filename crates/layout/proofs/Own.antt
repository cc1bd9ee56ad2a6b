-- Which cables stand in the column of one of their parts: of each rank that has outgoing cables exactly one of these, and of each rank that
-- has incoming cables exactly one of those. Assumes nothing.
use Prim.Native.Nat.{ℕ, zero, suc, ◌+◌, ◌-◌, ◌/◌, ◌<◌, ◌≤◌}
use mathlib.Core.Path.{◌≡◌, refl, sym, ◌∙◌, ap, subst}
use mathlib.Core.Logic.{◌↔◌}
use mathlib.Core.Bool.{Bool}
use native.Mathlib.Omega.{arith}
use native.Mathlib.Decide.{ℕ_discrete}
use lib.Dec.{eqb}
use borrow.Author.Tests.{eqb-true, eq-eqb}
use Rattle.lists.specs.Select.{range, count}
use Rattle.lists.proofs.Sums.{OneAt, count_each}
use Rattle.order.specs.Graph.{StGraph, size, lower, upper}
use Rattle.order.specs.RankedGraphs.{Ranked}
use Rattle.layout.specs.Columns.{moved}
use Rattle.layout.proofs.Step.{cable, part, outs, ins, out_place, in_at, taken_column, lefts, rights, cable_kept, part_kept, part_opened, cable_opened, out_place_one, in_at_comes, taken_column_comes}
use Rattle.lists.proofs.Increasing.{Increasing, increasing_one}
use Rattle.layout.proofs.Moved.{moved_increasing, moved_at}
use Rattle.layout.proofs.Invariant.{invariant}
use Rattle.layout.proofs.Width.{out_at, out_at_goes, out_place_out_at, comes_in, goes_out, table}

module _ (G : StGraph) (H : Ranked G) where
  -- a cable's column once k ranks stand; the column that rank k takes, and its new columns left and right
  abbrev X : ℕ → ℕ → ℕ
  X k i = cable G k i

  abbrev P : ℕ → ℕ
  P k = taken_column G k

  abbrev A : ℕ → ℕ
  A k = lefts G k

  abbrev B : ℕ → ℕ
  B k = rights G k

  -- the incoming cable whose column rank k takes
  unfoldable pub taken_cable : ℕ → ℕ
  taken_cable k = in_at G k ((ins G k - 1) / 2)

  taken_comes : (k : ℕ) → 0 < k → k < G.parts → (taken_cable k < size G) × (upper G (taken_cable k) ≡ k) × (taken_column G k ≡ cable G k (taken_cable k))
  unfolding taken_cable
  taken_comes k h l =
      let p : 0 < ins G k = comes_in G H k h l in
      let c = in_at_comes G k ((ins G k - 1) / 2) (omega arith) in
      (c.0, c.1, taken_column_comes G H k p)

  -- what moved to one column was in one column
  one_column : (k x y : ℕ) → moved (P k) (A k) (B k) x ≡ moved (P k) (A k) (B k) y → x ≡ y
  one_column k x y e = increasing_one (moved (P k) (A k) (B k)) (moved_increasing (P k) (A k) (B k)) x y e

  -- In its part's column when the part is placed

  pub lower_own : (k i : ℕ) → i < size G → lower G i ≡ k → (X (suc k) i ≡ part G (suc k) k) ↔ (out_place G k i ≡ lefts G k)
  lower_own k i h e = (λ q. omega (arith, cable_opened G H k i h e, part_opened G k), λ q. omega (arith, cable_opened G H k i h e, part_opened G k))

  pub upper_own : (k i : ℕ) → i < size G → upper G i ≡ k → (X (suc k) i ≡ part G (suc k) k) ↔ (i ≡ taken_cable k)
  upper_own k i h e = (go (ℕ_discrete i (taken_cable k)), back)
    where
      rise : lower G i < k
      rise = omega (arith, H.rises i h)

      here : k < G.parts
      here = omega (arith, H.inside i h)

      t : (taken_cable k < size G) × (upper G (taken_cable k) ≡ k) × (P k ≡ X k (taken_cable k))
      t = taken_comes k (omega (arith, rise)) here

      kept : X (suc k) i ≡ moved (P k) (A k) (B k) (X k i)
      kept = cable_kept G k i h (λ q. omega (arith, rise))

      stands : part G (suc k) k ≡ moved (P k) (A k) (B k) (P k)
      stands = part_opened G k ∙ sym (moved_at (P k) (A k) (B k) (P k) refl)

      go : Dec (i ≡ taken_cable k) → X (suc k) i ≡ part G (suc k) k → i ≡ taken_cable k
      go (yes s) q = s
      go (no s) q =
          absurd ((invariant G H k (omega (arith, here))).apart i (taken_cable k) h t.0 s
          rise (omega (arith, t.1, H.rises (taken_cable k) t.0)) (omega (arith, rise, t.1)) (omega (arith, t.1, H.rises (taken_cable k) t.0))
          (one_column k (X k i) (P k) (sym kept ∙ q ∙ stands) ∙ t.2))

      back : i ≡ taken_cable k → X (suc k) i ≡ part G (suc k) k
      back s = kept ∙ ap (λ (j : ℕ). moved (P k) (A k) (B k) (X k j)) s ∙ ap (moved (P k) (A k) (B k)) (sym t.2) ∙ sym stands

  -- From k ranks to l one strictly increasing map moves the parts that stand and the cables that are opened.
  pub record Carried (k l : ℕ) : Type 0 where
    pub map : ℕ → ℕ
    pub rises : Increasing map
    pub cables : (i : ℕ) → i < size G → lower G i < k → cable G l i ≡ map (cable G k i)
    pub parts : (j : ℕ) → j < k → part G l j ≡ map (part G k j)

  carried : (k d : ℕ) → Carried k (d + k)
  carried k zero = record { map = λ x. x; rises = λ x y h. h; cables = λ i h o. ap (λ (l : ℕ). X l i) (omega arith); parts = λ j h. ap (λ (l : ℕ). part G l j) (omega arith) }
  carried k (suc d) =
      let c = carried k d in
      let l = d + k in
      let e : suc d + k ≡ suc l = omega arith in
      record {
        map = λ x. moved (P l) (A l) (B l) (c.map x);
        rises = λ x y h. moved_increasing (P l) (A l) (B l) _ _ (c.rises x y h);
        cables = λ i h o. ap (λ (n : ℕ). X n i) e ∙ cable_kept G l i h (λ q. omega arith) ∙ ap (moved (P l) (A l) (B l)) (c.cables i h o);
        parts = λ j h. ap (λ (n : ℕ). part G n j) e ∙ part_kept G l j (omega arith) ∙ ap (moved (P l) (A l) (B l)) (c.parts j h);
      }

  -- until all ranks stand
  pub finished : (k : ℕ) → k ≤ G.parts → Carried k G.parts
  finished k h = let e : G.parts - k + k ≡ G.parts = omega arith in subst (λ (l : ℕ). Carried k l) e (carried k (G.parts - k))

  -- What is in one column stays in one column, and what is not stays apart.
  own_kept :
      (k i j : ℕ) → i < size G → lower G i < k → j < k → k ≤ G.parts
      → (cable G k i ≡ part G k j) ↔ (cable G G.parts i ≡ part G G.parts j)
  own_kept k i j h o g u =
      let c = finished k u in (
        λ q. c.cables i h o ∙ ap c.map q ∙ sym (c.parts j g),
        λ q. increasing_one c.map c.rises _ _ (sym (c.cables i h o) ∙ q ∙ c.parts j g),
      )

  pub lower_own_all : (i : ℕ) → i < size G → (X G.parts i ≡ part G G.parts (lower G i)) ↔ (out_place G (lower G i) i ≡ lefts G (lower G i))
  lower_own_all i h =
      let f = own_kept (suc (lower G i)) i (lower G i) h (omega arith) (omega arith) (omega (arith, H.rises i h, H.inside i h)) in
      let g = lower_own (lower G i) i h refl in
      (λ q. g.0 (f.1 q), λ q. f.0 (g.1 q))

  pub upper_own_all : (i : ℕ) → i < size G → (X G.parts i ≡ part G G.parts (upper G i)) ↔ (i ≡ taken_cable (upper G i))
  upper_own_all i h =
      let f = own_kept (suc (upper G i)) i (upper G i) h (omega (arith, H.rises i h)) (omega arith) (omega (arith, H.inside i h)) in
      let g = upper_own (upper G i) i h refl in
      (λ q. g.0 (f.1 q), λ q. f.0 (g.1 q))

  -- Of each rank that has outgoing cables exactly one of them stands in its column, and of each that has incoming cables exactly one of
  -- those.

  own_lower : ℕ → Bool
  own_lower i = eqb (cable G G.parts i) (part G G.parts (lower G i))

  own_upper : ℕ → Bool
  own_upper i = eqb (cable G G.parts i) (part G G.parts (upper G i))

  one_lower : (k : ℕ) → suc k < G.parts → OneAt own_lower (lower G) (size G) k
  unfolding own_lower
  one_lower k h =
      let l : lefts G k < outs G k = omega (arith, table G H k (goes_out G H k h)) in
      let g = out_at_goes G k (A k) l in
      record {
        one = out_at G k (A k);
        below = g.0;
        keyed = g.1;
        passes = eq-eqb _ _ ((lower_own_all (out_at G k (A k)) g.0).1 (rw g.1 (out_place_out_at G k (A k) l)));
        only = λ i u e q.
            let r : out_place G k i ≡ A k = subst (λ (z : ℕ). out_place G z i ≡ A z) e ((lower_own_all i u).0 (eqb-true _ _ q)) in
            out_place_one G k i (out_at G k (A k)) u g.0 e g.1 (r ∙ sym (out_place_out_at G k (A k) l));
      }

  one_upper : (k : ℕ) → suc k < G.parts → OneAt own_upper (λ i. upper G i - 1) (size G) k
  unfolding own_upper
  one_upper k h =
      let t = taken_comes (suc k) (omega arith) h in
      record {
        one = taken_cable (suc k);
        below = t.0;
        keyed = omega arith;
        passes = eq-eqb _ _ ((upper_own_all (taken_cable (suc k)) t.0).1 (ap taken_cable (sym t.1)));
        only = λ i u e q. (upper_own_all i u).0 (eqb-true _ _ q) ∙ ap taken_cable (omega (arith, H.rises i u));
      }

  -- so a rank's only outgoing cable stands in its column, and its only incoming one

  pub only_out : (i : ℕ) → i < size G → ((j : ℕ) → j < size G → lower G j ≡ lower G i → i ≡ j) → cable G G.parts i ≡ part G G.parts (lower G i)
  unfolding own_lower
  only_out i h one =
      let o = one_lower (lower G i) (omega (arith, H.rises i h, H.inside i h)) in
      eqb-true _ _ (ap own_lower (one o.one o.below o.keyed) ∙ o.passes)

  pub only_in : (i : ℕ) → i < size G → ((j : ℕ) → j < size G → upper G j ≡ upper G i → i ≡ j) → cable G G.parts i ≡ part G G.parts (upper G i)
  unfolding own_upper
  only_in i h one =
      let o = one_upper (upper G i - 1) (omega (arith, H.rises i h, H.inside i h)) in
      eqb-true _ _ (ap own_upper (one o.one o.below (omega (arith, o.keyed, H.rises i h, H.rises o.one o.below))) ∙ o.passes)

  pub lower_owns : 0 < G.parts → count (λ i. eqb (cable G G.parts i) (part G G.parts (lower G i))) (range (size G)) + 1 ≡ G.parts
  unfolding own_lower
  lower_owns h =
      omega (arith, count_each own_lower (lower G) (size G) (G.parts - 1) (λ i l q. omega (arith, H.rises i l, H.inside i l)) (λ k l. one_lower k (omega arith)))

  pub upper_owns : 0 < G.parts → count (λ i. eqb (cable G G.parts i) (part G G.parts (upper G i))) (range (size G)) + 1 ≡ G.parts
  unfolding own_upper
  upper_owns h =
      omega (arith, count_each own_upper (λ i. upper G i - 1) (size G) (G.parts - 1) (λ i l q. omega (arith, H.rises i l, H.inside i l)) (λ k l. one_upper k (omega arith)))
