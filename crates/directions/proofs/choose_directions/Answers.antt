-- `directions::choose_directions` meets its contract. The loop's invariant is `Choosing`. Assumes nothing.
use native.Mathlib.Omega.{arith}
use Rattle.directions.proofs.Choosing.{choosing_start, choosing_words, choosing_room, choosing_stops, choosing_next}
use Rattle.directions.proofs.choose_directions.Goals as goal

pub loop-i-init : goal.loop-i-init
loop-i-init c = choosing_start c.requires.clear c.requires.follows c.requires.most_cables_in_bounds c.cable_count-m.ensures c.part_count-at.ensures

pub corners_at-corners-requires : goal.corners_at-corners-requires
corners_at-corners-requires c = choosing_words c.loop-i.invariant c.loop-i-test.true

pub returns-then-not-alternates : goal.returns-then-not-alternates
returns-then-not-alternates c = choosing_stops c.loop-i.invariant c.loop-i-test.true c.corners_at-corners.ensures
    c.of.ensures c.faces_forward-facing.ensures c.of-in-loop-i.ensures c.alternates.ensures c.if-not-alternates.true

pub bounds-forward-i : goal.bounds-forward-i
bounds-forward-i c = choosing_room c.loop-i.invariant c.loop-i-test.true

pub overflow_add-at-in-loop-i-2 : goal.overflow_add-at-in-loop-i-2
overflow_add-at-in-loop-i-2 c = omega (arith, choosing_words c.loop-i.invariant c.loop-i-test.true)

pub loop-i-preserved : goal.loop-i-preserved
loop-i-preserved c = choosing_next c.loop-i.invariant c.loop-i-test.true c.corners_at-corners.ensures
    c.of.ensures c.faces_forward-facing.ensures c.of-in-loop-i.ensures c.alternates.ensures c.if-not-alternates.false
