-- `sweeping::rows::Sweep::sweep_rows` meets its contract. The loop's invariant is `Rising`. Assumes nothing.
use native.Mathlib.Omega.{arith}
use Rattle.order.proofs.Passed.{words_10}
use Rattle.sweeping.proofs.RowSteps.{parts_inside, parts_few, parts_read, rising_start, rising_next, rising_end}
use Rattle.sweeping.proofs.rows.Sweep.sweep_rows.Goals as goal

pub part_count-requires : goal.part_count-requires
part_count-requires c = words_10 _ c.args.self.now.sweepable.passed

pub overflow_add-parts : goal.overflow_add-parts
overflow_add-parts c = omega (arith, parts_inside c.args.self.now.sweepable c.part_count.ensures)

pub slice_bounds-parts-end : goal.slice_bounds-parts-end
slice_bounds-parts-end c = parts_inside c.args.self.now.sweepable c.part_count.ensures

pub bounds-self-0 : goal.bounds-self-0
bounds-self-0 c = omega (arith, parts_inside c.args.self.now.sweepable c.part_count.ensures)

pub loop-row-init : goal.loop-row-init
loop-row-init c = let s = c.args.self.now in rising_start s.list.now s.sheet.now s.forward.now s.lines c.second-height.ensures

pub mark_parts-requires : goal.mark_parts-requires
mark_parts-requires c = parts_few c.args.self.now.sweepable c.part_count.ensures

pub loop-row-preserved : goal.loop-row-preserved
loop-row-preserved c =
    rising_next c.loop-row.invariant c.loop-row-test.true (parts_read c.args.self.now.sweepable c.part_count.ensures) c.mark_parts.ensures
    c.sweep_lines.ensures

pub returns : goal.returns
returns c = let h = rising_end c.loop-row.invariant c.loop-row-test.false in record { alone_after = h.0; pairs_after = h.1 }
