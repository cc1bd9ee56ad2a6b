-- `selecting::place_of` meets its contract. The loop's invariant is `Placing`. Assumes nothing.
use Rattle.selecting.proofs.Steps.{Placing}
use Rattle.selecting.proofs.place_of.Given as goal

abbrev pub invariant-loop-cable : goal.invariant-loop-cable
invariant-loop-cable l = Placing l.list l.sheet l.line l.at l._cable
