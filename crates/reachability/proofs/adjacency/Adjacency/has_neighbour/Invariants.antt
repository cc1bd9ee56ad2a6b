-- `reachability::adjacency::Adjacency::has_neighbour` meets its contract. The loop's invariant is `Testing`. Assumes nothing.
use Rattle.reachability.proofs.Testing.{Testing}
use Rattle.reachability.proofs.adjacency.Adjacency.has_neighbour.Given as goal

abbrev pub invariant-loop-q : goal.invariant-loop-q
invariant-loop-q l = Testing l.self.table l.flags l.flag l.fn.w.0 l.q-items l.q-index
