-- `selecting::box_over` meets its contract. The loop's invariant is `Growing`. Assumes nothing.
use Rattle.selecting.proofs.Steps.{growing_next, growing_end}
use Rattle.selecting.proofs.box_over.Goals as goal

pub loop-word-preserved : goal.loop-word-preserved
loop-word-preserved c = growing_next c.loop-word.invariant c.loop-word-test.true c.spot_in-corner.ensures.spot c.included-bounds.ensures

pub returns : goal.returns
returns c = growing_end c.loop-word.invariant c.loop-word-test.false c.around-bounds.ensures _ _ c.included.ensures
