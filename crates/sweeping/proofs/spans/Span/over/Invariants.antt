-- `sweeping::spans::Span::over` meets its contract. The loop's invariant is `Widening`. Assumes nothing.
use Rattle.geometry.specs.Spots.{spot_in}
use Rattle.sweeping.proofs.Spanning.{Widening}
use Rattle.sweeping.proofs.spans.Span.over.Given as goal

abbrev pub invariant-loop-word : goal.invariant-loop-word
invariant-loop-word l = Widening (spot_in l.line.first) l.line.corners.now (spot_in l.line.last) l.low l.high l.word-index
