-- `reachability::walk::Walker::beside` meets its contract. What is returned is q, or passed the tests. Assumes nothing.
use Rattle.std.specs.Bool.{⊤}
use Rattle.reachability.proofs.walk.Walker.beside.Given as goal

abbrev pub invariant-loop-j : goal.invariant-loop-j
invariant-loop-j l = ⊤
