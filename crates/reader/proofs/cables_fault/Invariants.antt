-- `reader::cables_fault` meets its contract. The loop's invariant is `Reading`. Assumes nothing.
use Rattle.reader.proofs.Faults.{Reading}
use Rattle.reader.proofs.cables_fault.Given as goal

abbrev pub invariant-loop-line : goal.invariant-loop-line
invariant-loop-line l = Reading l.sheet l.first l.cables l.at l.line
