-- `reachability::walk::Walker::walk_from` meets its contract. Assumes nothing.
use borrow.Author.Rules.{rules}
use Rattle.reachability.proofs.Walking.{starting_one, left_one}
use Rattle.reachability.proofs.walk.Walker.walk_from.Goals as goal

pub take_reached-requires : goal.take_reached-requires
take_reached-requires c = search (starting_one, rules)

pub returns : goal.returns
returns c = search (left_one, rules)
