-- `reachability::walk::Walker::unreached_part` meets its contract. Assumes nothing.
use borrow.Author.Rules.{rules}
use Rattle.reachability.proofs.Connected.{check9_found}
use Rattle.reachability.proofs.walk.Walker.unreached_part.Goals as goal

pub returns : goal.returns
returns c = search (check9_found, rules)
