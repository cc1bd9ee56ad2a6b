-- `locating::lines::passes` meets its contract. The loop's invariant is `Passing`. Assumes nothing.
use Rattle.locating.proofs.Passing.{passing_start, passing_here, passing_on, passing_end}
use Rattle.locating.proofs.lines.passes.Goals as goal

pub returns-then-is_between : goal.returns-then-is_between
returns-then-is_between c = passing_here c.loop-word.invariant _ c.spot_in-q.ensures.spot
    c.loop-word-test.true _ c.is_between.ensures c.if-is_between.true

pub loop-word-preserved : goal.loop-word-preserved
loop-word-preserved c = passing_on c.loop-word.invariant _ c.spot_in-q.ensures.spot
    c.loop-word-test.true _ c.is_between.ensures c.if-is_between.false

pub returns : goal.returns
returns c = passing_end c.loop-word.invariant c.loop-word-test.false _ c.is_between-2.ensures
