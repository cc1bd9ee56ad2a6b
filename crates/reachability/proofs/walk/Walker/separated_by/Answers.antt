-- `reachability::walk::Walker::separated_by` meets its contract. Assumes nothing.
use borrow.Author.Rules.{rules}
use Rattle.reachability.proofs.Walking.{starting_two, left_ends}
use Rattle.reachability.proofs.walk.Walker.separated_by.Goals as goal

pub take_reached-requires : goal.take_reached-requires
take_reached-requires c = search (starting_two, rules)

pub returns : goal.returns
returns c = search (left_ends, rules)
