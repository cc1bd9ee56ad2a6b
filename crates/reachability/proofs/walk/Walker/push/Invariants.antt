-- `reachability::walk::Walker::push` meets its contract. The loop's invariant is `Pushing`. Assumes nothing.
use Rattle.reachability.specs.Tables.{numbers}
use Rattle.reachability.proofs.Walks.{Pushing}
use Rattle.reachability.proofs.walk.Walker.push.Given as goal

abbrev pub invariant-loop-j : goal.invariant-loop-j
invariant-loop-j l = Pushing (numbers l.neighbours) l.fn.stack l.top l.stack l.at l.j
