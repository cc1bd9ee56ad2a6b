-- `directions::choose_directions` meets its contract. The loop's invariant is `Choosing`. Assumes nothing.
use Rattle.directions.proofs.Choosing.{Choosing}
use Rattle.directions.proofs.choose_directions.Given as goal

abbrev pub invariant-loop-i : goal.invariant-loop-i
invariant-loop-i l = Choosing l.list l.sheet l.initial.forward l.m l.forward l.at l.i
