-- `sweeping::rows::Sweep::sweep_lines` meets its contract. The loop's invariant is `Sweeping`. Assumes nothing.
use Rattle.sweeping.proofs.RowSteps.{Sweeping}
use Rattle.sweeping.proofs.rows.Sweep.sweep_lines.Given as goal

abbrev pub invariant-loop-line : goal.invariant-loop-line
invariant-loop-line l =
    let s = l.self in Sweeping s.list.now s.sheet.now s.forward.now s.lines l.initial.boards l.boards l.at l.line
