-- `selecting::place_of` meets its contract. The loop's invariant is `Placing`. Assumes nothing.
use native.Mathlib.Omega.{arith}
use Rattle.validation.proofs.Following.{words_enough}
use Rattle.selecting.proofs.Steps.{placing_start, placing_inside, placing_next}
use Rattle.selecting.proofs.place_of.Goals as goal

pub overflow_add-at : goal.overflow_add-at
overflow_add-at c = omega (arith, c.part_count-at.ensures, words_enough _ _ _ c.requires.follows)

pub loop-cable-init : goal.loop-cable-init
loop-cable-init c = placing_start c.requires.follows c.requires.line_in_bounds c.part_count-at.ensures

pub corners_at-requires : goal.corners_at-requires
corners_at-requires c = placing_inside c.loop-cable.invariant

pub overflow_add-at-in-loop-cable-2 : goal.overflow_add-at-in-loop-cable-2
overflow_add-at-in-loop-cable-2 c = omega (arith, placing_inside c.loop-cable.invariant)

pub loop-cable-preserved : goal.loop-cable-preserved
loop-cable-preserved c = placing_next c.loop-cable.invariant c.loop-cable-test.true c.corners_at.ensures
