-- `sweeping::rows::find_spans` meets its contract. The loop's invariant is `Filling`. Assumes nothing.
use Rattle.sweeping.proofs.Spanning.{Filling}
use Rattle.sweeping.proofs.rows.find_spans.Given as goal

abbrev pub invariant-loop-i : goal.invariant-loop-i
invariant-loop-i l = Filling l.list l.sheet l.forward l.lines l.spans l.at l.i
