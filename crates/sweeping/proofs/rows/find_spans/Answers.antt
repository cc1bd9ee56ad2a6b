-- `sweeping::rows::find_spans` meets its contract. The loop's invariant is `Filling`. Assumes nothing.
use native.Mathlib.Omega.{arith}
use Rattle.order.proofs.Passed.{list_wired, lines_most}
use Rattle.sweeping.proofs.RowSteps.{at_inside}
use Rattle.sweeping.proofs.Spanning.{filling_start, filling_next}
use Rattle.sweeping.proofs.rows.find_spans.Goals as goal

pub overflow_add-at : goal.overflow_add-at
overflow_add-at c = omega (arith, c.part_count-at.ensures, (list_wired _ c.requires.passed).most)

pub loop-i-init : goal.loop-i-init
loop-i-init c = filling_start _ c.requires (omega (arith, c.requires.few, lines_most _ c.requires.passed)) (omega (arith, c.part_count-at.ensures))

pub corners_at-corners-requires : goal.corners_at-corners-requires
corners_at-corners-requires c = at_inside c.loop-i.invariant.here c.loop-i-test.true

pub offset_bounds-spans-i : goal.offset_bounds-spans-i
offset_bounds-spans-i c = omega (arith, c.requires.few, lines_most _ c.requires.passed, c.loop-i-test.true)

pub bounds-spans-i : goal.bounds-spans-i
bounds-spans-i c = omega (arith, c.requires.few, lines_most _ c.requires.passed, c.loop-i-test.true)

pub overflow_add-at-in-loop-i-2 : goal.overflow_add-at-in-loop-i-2
overflow_add-at-in-loop-i-2 c = omega (arith, at_inside c.loop-i.invariant.here c.loop-i-test.true)

pub loop-i-preserved : goal.loop-i-preserved
loop-i-preserved c = filling_next c.loop-i.invariant c.loop-i-test.true c.corners_at-corners.ensures c.of.ensures _ c.over.ensures
