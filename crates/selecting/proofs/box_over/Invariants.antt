-- `selecting::box_over` meets its contract. The loop's invariant is `Growing`. Assumes nothing.
use Rattle.selecting.proofs.Steps.{Growing}
use Rattle.selecting.proofs.box_over.Given as goal

abbrev pub invariant-loop-word : goal.invariant-loop-word
invariant-loop-word l = Growing l.line.corners.now l.initial.bounds l.bounds l.word-index
