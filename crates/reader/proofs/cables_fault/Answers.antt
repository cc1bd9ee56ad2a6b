-- `reader::cables_fault` meets its contract. The loop's invariant is `Reading`. Assumes nothing.
use mathlib.Core.Path.{sym, ◌∙◌}
use native.Mathlib.Omega.{arith}
use Rattle.reader.proofs.Faults.{placed_inside, placed_after, reading_cable, reading_corner, reading_next, reading_end}
use Rattle.reader.proofs.cables_fault.Goals as goal

pub returns-then-no_cable : goal.returns-then-no_cable
returns-then-no_cable c = reading_cable _ _ _ c.loop-line.invariant c.loop-line-test.true
    (sym c.no_cable.ensures ∙ c.if-no_cable.true)

pub bounds-sheet-at : goal.bounds-sheet-at
bounds-sheet-at c = placed_inside _ _ _ (sym c.no_cable.ensures ∙ c.if-no_cable.false)

pub points_fault-requires : goal.points_fault-requires
points_fault-requires c = record {
  sheet_nonzero = c.requires.sheet_nonzero;
  at_in_bounds = placed_after _ _ _ (sym c.no_cable.ensures ∙ c.if-no_cable.false);
  count_bound = omega (arith, c.second-count.ensures);
}

pub returns-in-Some : goal.returns-in-Some
returns-in-Some c = reading_corner _ _ _ c.loop-line.invariant c.loop-line-test.true
    (sym c.no_cable.ensures ∙ c.if-no_cable.false) c.second-count.ensures _
    (sym c.points_fault.ensures ∙ c.in-Some.is)

pub loop-line-preserved : goal.loop-line-preserved
loop-line-preserved c = reading_next _ _ _ c.loop-line.invariant
    c.loop-line-test.true
    (sym c.no_cable.ensures ∙ c.if-no_cable.false)
    c.second-count.ensures (sym c.points_fault.ensures ∙ c.in_default.is)

pub returns : goal.returns
returns c = reading_end _ _ _ c.loop-line.invariant c.loop-line-test.false
