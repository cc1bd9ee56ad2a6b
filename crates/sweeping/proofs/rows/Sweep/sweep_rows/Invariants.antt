-- `sweeping::rows::Sweep::sweep_rows` meets its contract. The loop's invariant is `Rising`. Assumes nothing.
use Rattle.sweeping.proofs.RowSteps.{Rising}
use Rattle.sweeping.proofs.rows.Sweep.sweep_rows.Given as goal

abbrev pub invariant-loop-row : goal.invariant-loop-row
invariant-loop-row l =
    let s = l.self in Rising s.list.now s.sheet.now s.forward.now s.lines l.height l.initial.boards l.boards l.row
