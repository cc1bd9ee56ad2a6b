-- `sweeping::rows::mark_parts` meets its contract. The loop's invariant is `Marking`. Assumes nothing.
use Rattle.geometry.specs.Spots.{spot_in}
use Rattle.sweeping.proofs.RowSteps.{marking_next, marking_end}
use Rattle.sweeping.proofs.rows.mark_parts.Goals as goal

pub loop-p-preserved : goal.loop-p-preserved
loop-p-preserved c = let m = c.mark_part.ensures in
    marking_next c.loop-p.invariant (spot_in c.spot_in.result) c.loop-p-test.true c.spot_in.ensures.spot m.row_stays m.alone_after m.pairs_stay

pub returns : goal.returns
returns c = marking_end c.loop-p.invariant c.loop-p-test.false
