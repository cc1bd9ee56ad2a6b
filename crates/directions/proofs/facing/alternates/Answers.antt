-- `directions::facing::alternates` meets its contract. The loop's invariant is `Walking`. Assumes nothing.
use Rattle.directions.proofs.Alternating.{walking_start, walking_on, walking_stops, walking_end}
use Rattle.directions.proofs.facing.alternates.Goals as goal

pub loop-word-init : goal.loop-word-init
loop-word-init c = walking_start c.starts_level-level.ensures

pub returns-then-not-is_run : goal.returns-then-not-is_run
returns-then-not-is_run c = walking_stops c.loop-word.invariant _ c.spot_in-q.ensures.spot
    c.loop-word-test.true _ c.is_run.ensures c.if-not-is_run.true

pub loop-word-preserved : goal.loop-word-preserved
loop-word-preserved c = walking_on c.loop-word.invariant _ c.spot_in-q.ensures.spot
    c.loop-word-test.true _ c.is_run.ensures c.if-not-is_run.false

pub returns : goal.returns
returns c = walking_end c.loop-word.invariant c.loop-word-test.false _ c.is_run-2.ensures
