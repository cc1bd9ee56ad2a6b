-- `reachability::adjacency::Adjacency::of` meets its contract. The loop's invariant is `TableUpTo`. Assumes nothing.
use Rattle.reachability.proofs.AdjacencyTable.{TableUpTo}
use Rattle.reachability.proofs.adjacency.Adjacency.of.Given as goal

abbrev pub invariant-loop-line : goal.invariant-loop-line
invariant-loop-line l = TableUpTo l.list l.line-end l.table l.line
