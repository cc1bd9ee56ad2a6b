-- `reachability::walk::Walker::separating_part` meets its contract. The invariant: no part before v separates another from both ends. Assumes nothing.
use borrow.Author.Rules.{rules}
use Rattle.reachability.proofs.Connected.{check10_next, check10_at, check10_none}
use Rattle.reachability.proofs.walk.Walker.separating_part.Goals as goal

pub returns-then-has_neighbour : goal.returns-then-has_neighbour
returns-then-has_neighbour c = search (check10_at, rules)

pub loop-v-preserved : goal.loop-v-preserved
loop-v-preserved c = search (check10_next, rules)

pub returns : goal.returns
returns c = search (check10_none, rules)
