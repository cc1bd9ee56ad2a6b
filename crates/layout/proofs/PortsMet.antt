-- On the finished layout every cable leaves its lower part and comes in at its upper part by the ports that figures 2 and 3 give it.
-- Assumes nothing.
use Prim.Native.Nat.{ℕ, suc, ◌+◌, ◌-◌, ◌/◌, ◌<◌, ◌≤◌}
use native.Mathlib.Omega.{arith}
use native.Mathlib.Decide.{ℕ_discrete}
use mathlib.Core.Path.{◌≡◌, refl, sym, ap, ◌∙◌}
use mathlib.Core.Logic.{◌↔◌}
use lib.ListN.{get_or}
use Rattle.lists.proofs.Increasing.{increasing_le}
use Rattle.order.specs.Graph.{StGraph, size, lower, upper}
use Rattle.order.specs.RankedGraphs.{Ranked}
use Rattle.order.proofs.Graphs.{lower_inside}
use Rattle.layout.specs.Ports.{Port, left, below, right, above, in_ports, out_ports, port_column}
use Rattle.layout.specs.Columns.{moved}
use Rattle.layout.specs.Points.{Course, course, part_spot, course_of}
use Rattle.layout.proofs.Ports.{port_number, out_place_lem, in_place_lem, left_new}
use Rattle.layout.proofs.Moved.{moved_at, moved_increasing}
use Rattle.layout.proofs.Step.{cable, part, outs, ins, out_place, in_place, in_at, taken_column, lefts, rights, part_opened, out_place_below, in_place_below, in_at_in_place, in_at_one, in_at_rises, cable_kept, degree, ports, cable_opened, taken_column_comes}
use Rattle.layout.proofs.Placed.{row, Low, dips, leaves, High, climbs, enters, low_of, high_of, row_less}
use Rattle.layout.proofs.Own.{taken_cable, upper_own, finished}

strict : (x y : ℕ) → x ≤ y → (x ≡ y → ⊥) → x < y
strict x y h n = go (ℕ_discrete x y)
  where
    go : Dec (x ≡ y) → x < y
    go (yes e) = absurd (n e)
    go (no e) = omega arith

-- a course leaves its lower part by a port
pub LeavesBy : Port → Course → Type 0
LeavesBy left c = (c.column < c.from.x) × (c.low ≡ c.from.y)
LeavesBy above c = (c.column ≡ c.from.x) × (c.low ≡ c.from.y)
LeavesBy right c = (c.from.x < c.column) × (c.low ≡ c.from.y)
LeavesBy below c = c.low < c.from.y

-- and comes in at its upper part by one
pub EntersBy : Port → Course → Type 0
EntersBy left c = (c.column < c.to.x) × (c.high ≡ c.to.y)
EntersBy below c = (c.column ≡ c.to.x) × (c.high ≡ c.to.y)
EntersBy right c = (c.to.x < c.column) × (c.high ≡ c.to.y)
EntersBy above c = c.to.y < c.high

module _ (G : StGraph) where
  -- the port of the cable at line i, in the drawing of its lower and of its upper part
  pub lower_port : ℕ → Port
  lower_port i = let k = lower G i in get_or (out_ports (ins G k) (outs G k)) (out_place G k i) above

  pub upper_port : ℕ → Port
  upper_port i = let k = upper G i in get_or (in_ports (ins G k)) (in_place G k i) below

  module _ (R : Ranked G) (i : ℕ) (h : i < size G) where
    -- on which side of a part's column the cable is stays as it is once the part stands

    carried_less : (k : ℕ) → k < G.parts → lower G i ≤ k → cable G (suc k) i < part G (suc k) k → cable G G.parts i < part G G.parts k
    carried_less k b o s =
        let c = finished G R (suc k) (omega arith) in
        omega (arith, c.rises _ _ s, c.cables i h (omega arith), c.parts k (omega arith))

    carried_more : (k : ℕ) → k < G.parts → lower G i ≤ k → part G (suc k) k < cable G (suc k) i → part G G.parts k < cable G G.parts i
    carried_more k b o s =
        let c = finished G R (suc k) (omega arith) in
        omega (arith, c.rises _ _ s, c.cables i h (omega arith), c.parts k (omega arith))

    carried_same : (k : ℕ) → k < G.parts → lower G i ≤ k → cable G (suc k) i ≡ part G (suc k) k → cable G G.parts i ≡ part G G.parts k
    carried_same k b o s =
        let c = finished G R (suc k) (omega arith) in
        c.cables i h (omega arith) ∙ ap c.map s ∙ sym (c.parts k (omega arith))

    -- The lower part

    abbrev l : ℕ
    l = lower G i

    abbrev j : ℕ
    j = out_place G l i

    here : l < G.parts
    here = lower_inside G R i h

    opens : cable G (suc l) i ≡ taken_column G l + j
    opens = cable_opened G R l i h refl

    level : j < 3 → (course_of G i).low ≡ (course_of G i).from.y
    unfolding course_of course part_spot
    level b = go (low_of G R i h)
      where
        go : Low G i → (course_of G i).low ≡ (course_of G i).from.y
        go (dips a c d) = absurd (omega arith)
        go (leaves a c) = c

    place_tells : (q : Port) → lower_port i ≡ q → port_column 0 (lefts G l) q ≡ j
    unfolding lower_port lefts
    place_tells q e =
        sym (ap (port_column 0 (lefts G l)) e) ∙ out_place_lem (ins G l) (outs G l) (degree G R l) j (out_place_below G l i h refl)

    -- the bottom connection is the fourth, and its lower lane is below the part
    fourth : lefts G l + 2 ≡ j → (course_of G i).low < (course_of G i).from.y
    unfolding course_of course part_spot
    fourth e = go (low_of G R i h)
      where
        b : j < outs G l
        b = out_place_below G l i h refl

        three : j ≡ 3
        three = omega (arith, (ports G R l).last_right (omega (arith, (ports G R l).all (omega (arith, b)), b)))

        go : Low G i → (course_of G i).low < (course_of G i).from.y
        go (dips a c d) = omega (arith, ap (row G) a)
        go (leaves a c) = absurd (omega (arith, three))

    leaves_by : (q : Port) → lower_port i ≡ q → LeavesBy q (course_of G i)
    unfolding LeavesBy course_of course part_spot cable part lower_port lefts
    leaves_by left e =
        let n : 0 < lefts G l = left_new (out_ports (ins G l) (outs G l)) j e in
        let t : 0 ≡ j = place_tells left e in
        (carried_less l here (omega arith) (omega (arith, opens, part_opened G l)), level (omega arith))
    leaves_by above e =
        let t : 0 + lefts G l ≡ j = place_tells above e in
        (carried_same l here (omega arith) (omega (arith, opens, part_opened G l)), level (omega (arith, (ports G R l).one_left)))
    leaves_by right e =
        let t : 0 + lefts G l + 1 ≡ j = place_tells right e in
        (carried_more l here (omega arith) (omega (arith, opens, part_opened G l)), level (omega (arith, (ports G R l).one_left)))
    leaves_by below e = let t : 0 + lefts G l + 2 ≡ j = place_tells below e in fourth (omega arith)

    pub leaves_met : LeavesBy (lower_port i) (course_of G i)
    leaves_met = leaves_by (lower_port i) refl

    -- The upper part

    abbrev u : ℕ
    u = upper G i

    abbrev q : ℕ
    q = in_place G u i

    abbrev mid : ℕ
    mid = (ins G u - 1) / 2

    there : u < G.parts
    there = R.inside i h

    comes : q < ins G u
    comes = in_place_below G u i h refl

    old : lower G i < u
    old = R.rises i h

    middle : (mid < ins G u) × (mid < 2)
    middle = omega (arith, comes, degree G R u)

    kept : cable G (suc u) i ≡ moved (taken_column G u) (lefts G u) (rights G u) (cable G u i)
    kept = cable_kept G u i h (λ e. omega (arith, old))

    stands : part G (suc u) u ≡ moved (taken_column G u) (lefts G u) (rights G u) (taken_column G u)
    stands = part_opened G u ∙ sym (moved_at (taken_column G u) (lefts G u) (rights G u) (taken_column G u) refl)

    -- its column and the one that the part takes, and both once the part stands

    mine : cable G u (in_at G u q) ≡ cable G u i
    mine = ap (cable G u) (in_at_in_place G u i h refl)

    taken : taken_column G u ≡ cable G u (in_at G u mid)
    taken = taken_column_comes G R u (omega (arith, comes))

    at_most : q ≤ mid → cable G (suc u) i ≤ part G (suc u) u
    at_most b =
        let c : cable G u i ≤ taken_column G u = omega (arith, in_at_rises G u q mid b middle.0 (omega (arith, middle)), mine, taken) in
        omega (arith, increasing_le _ (moved_increasing (taken_column G u) (lefts G u) (rights G u)) (cable G u i) (taken_column G u) c, kept, stands)

    at_least : mid ≤ q → q < 3 → part G (suc u) u ≤ cable G (suc u) i
    at_least b d =
        let c : taken_column G u ≤ cable G u i = omega (arith, in_at_rises G u mid q b comes d, mine, taken) in
        omega (arith, increasing_le _ (moved_increasing (taken_column G u) (lefts G u) (rights G u)) (taken_column G u) (cable G u i) c, kept, stands)

    own : (cable G (suc u) i ≡ part G (suc u) u) ↔ (q ≡ mid)
    unfolding taken_cable
    own =
        let o = upper_own G R u i h refl in (
          λ e. in_at_one G u q mid comes middle.0 (in_at_in_place G u i h refl ∙ o.0 e),
          λ e. o.1 (sym (in_at_in_place G u i h refl) ∙ ap (in_at G u) e),
        )

    apart : (q ≡ mid → ⊥) → cable G (suc u) i ≡ part G (suc u) u → ⊥
    apart d e = d (own.0 e)

    level_in : q < 3 → (course_of G i).high ≡ (course_of G i).to.y
    unfolding course_of course part_spot
    level_in b = go (high_of G R i h)
      where
        go : High G i → (course_of G i).high ≡ (course_of G i).to.y
        go (climbs a c d) = absurd (omega arith)
        go (enters a c) = c

    over : q ≡ 3 → (course_of G i).to.y < (course_of G i).high
    unfolding course_of course part_spot
    over e = go (high_of G R i h)
      where
        go : High G i → (course_of G i).to.y < (course_of G i).high
        go (climbs a c d) = omega (arith, row_less G u G.parts there, d)
        go (enters a c) = absurd (omega arith)

    number : (p : Port) → upper_port i ≡ p → port_number p ≡ 1 - mid + q
    unfolding upper_port
    number p e = sym (ap port_number e) ∙ in_place_lem (ins G u) (outs G u) (degree G R u) q comes

    enters_by : (p : Port) → upper_port i ≡ p → EntersBy p (course_of G i)
    unfolding EntersBy course_of course part_spot cable part
    enters_by left e =
        let t : q < mid = omega (arith, number left e, middle) in
        (carried_less u there (omega (arith, old)) (strict _ _ (at_most (omega arith)) (apart (λ n. omega arith))), level_in (omega (arith, middle)))
    enters_by below e =
        let t : q ≡ mid = omega (arith, number below e, middle) in
        (carried_same u there (omega (arith, old)) (own.1 t), level_in (omega (arith, middle)))
    enters_by right e =
        let t : q ≡ mid + 1 = omega (arith, number right e, middle) in
        (carried_more u there (omega (arith, old)) (strict _ _ (at_least (omega arith) (omega (arith, middle))) (λ n. apart (λ o. omega arith) (sym n))), level_in (omega (arith, middle)))
    enters_by above e = over (omega (arith, number above e, middle, comes))

    pub enters_met : EntersBy (upper_port i) (course_of G i)
    enters_met = enters_by (upper_port i) refl
