-- `sweeping::rows::Sweep::sweep_lines` meets its contract. The loop's invariant is `Sweeping`. Assumes nothing.
use native.Mathlib.Omega.{arith}
use Rattle.order.proofs.Passed.{words_10, list_wired}
use Rattle.sweeping.proofs.RowSteps.{at_inside, sweeping_start, sweeping_next, sweeping_end}
use Rattle.sweeping.proofs.rows.Sweep.sweep_lines.Goals as goal

pub part_count-at-requires : goal.part_count-at-requires
part_count-at-requires c = words_10 _ c.args.self.now.sweepable.passed

pub overflow_add-at : goal.overflow_add-at
overflow_add-at c = omega (arith, c.part_count-at.ensures, (list_wired _ c.args.self.now.sweepable.passed).most)

pub loop-line-init : goal.loop-line-init
loop-line-init c = sweeping_start c.args.self.now.sweepable (omega (arith, c.part_count-at.ensures))

pub corners_at-corners-requires : goal.corners_at-corners-requires
corners_at-corners-requires c = at_inside c.loop-line.invariant.here c.loop-line-test.true

pub overflow_add-at-in-loop-line-2 : goal.overflow_add-at-in-loop-line-2
overflow_add-at-in-loop-line-2 c = omega (arith, at_inside c.loop-line.invariant.here c.loop-line-test.true)

pub loop-line-preserved : goal.loop-line-preserved
loop-line-preserved c = sweeping_next c.loop-line.invariant c.loop-line-test.true c.corners_at-corners.ensures c.sweep_reached.ensures

pub returns : goal.returns
returns c = sweeping_end c.loop-line.invariant c.loop-line-test.false
