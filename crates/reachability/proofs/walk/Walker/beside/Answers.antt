-- `reachability::walk::Walker::beside` meets its contract. What is returned is q, or passed the tests. Assumes nothing.
use borrow.Author.Rules.{rules}
use Rattle.reachability.proofs.Separation.{looked_inside, looked_below, across_here}
use Rattle.reachability.proofs.walk.Walker.beside.Goals as goal

pub bounds-set-x : goal.bounds-set-x
bounds-set-x c = search (looked_below, rules)

pub returns-then-left-x : goal.returns-then-left-x
returns-then-left-x c = search (across_here, looked_inside, rules)
