-- `sweeping::rows::mark_parts` meets its contract. The loop's invariant is `Marking`. Assumes nothing.
use Rattle.sweeping.proofs.RowSteps.{Marking}
use Rattle.sweeping.proofs.rows.mark_parts.Given as goal

abbrev pub invariant-loop-p : goal.invariant-loop-p
invariant-loop-p l = Marking l.parts l.initial.boards l.boards l.p
