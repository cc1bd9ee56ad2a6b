-- `sweeping::lines::visit_columns` meets its contract. The loop's invariant is `Left`. Assumes nothing.
use Rattle.sweeping.proofs.LineSteps.{visited_one, columns_next, columns_end}
use Rattle.sweeping.proofs.lines.visit_columns.Goals as goal

pub loop-column-preserved : goal.loop-column-preserved
loop-column-preserved c = let v = c.visit.ensures in
    columns_next c.loop-column.invariant c.loop-column-test.true (visited_one _ v.row_stays v.alone_after v.pairs_after)

pub returns : goal.returns
returns c = columns_end c.loop-column.invariant c.loop-column-test.false
