-- `reachability::adjacency::join` meets its contract. Assumes nothing.
use borrow.Author.Rules.{rules}
use Rattle.reachability.proofs.AdjacencyTable.{appended}
use Rattle.reachability.proofs.adjacency.join.Goals as goal

pub returns : goal.returns
returns c = search (appended, rules)
