-- `sweeping::spans::Span::over` meets its contract. The loop's invariant is `Widening`. Assumes nothing.
use Rattle.sweeping.proofs.Spanning.{widening_end}
use Rattle.sweeping.proofs.spans.Span.over.Goals as goal

pub returns : goal.returns
returns c = widening_end c.loop-word.invariant c.loop-word-test.false
