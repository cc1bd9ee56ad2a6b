-- `console::read_full` meets its contract. Assumes nothing.
use Rattle.std.specs.Prelude.{◌≤◌, ◌-◌, length}
use Rattle.console.proofs.read_full.Given as goal

abbrev pub invariant-loop-done : goal.invariant-loop-done
invariant-loop-done g l = (l.done ≤ length l.row)

abbrev pub decreases-loop-done : goal.decreases-loop-done
decreases-loop-done g l = length l.row - l.done
