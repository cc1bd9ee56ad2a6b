-- `sweeping::lines::sweep_line` meets its contract. The loop's invariant is `Tracing`. Assumes nothing.
use Rattle.geometry.specs.Spots.{spot_in}
use Rattle.sweeping.proofs.LineSteps.{tracing_start, tracing_next, tracing_end}
use Rattle.sweeping.proofs.lines.sweep_line.Goals as goal

pub loop-word-init : goal.loop-word-init
loop-word-init c = let l = c.args.line in
    tracing_start (spot_in l.first) l.corners.now (spot_in l.last) l.first_inside.across c.visit_point.ensures

pub loop-word-preserved : goal.loop-word-preserved
loop-word-preserved c = let q = c.spot_in-q.ensures in
    tracing_next c.loop-word.invariant c.loop-word-test.true q.spot q.inside.across c.visit_between.ensures c.visit_point-in-loop-word.ensures

pub returns : goal.returns
returns c = tracing_end c.loop-word.invariant c.loop-word-test.false c.visit_between-2.ensures c.visit_point-2.ensures
