-- `reachability::adjacency::Adjacency::has_neighbour` meets its contract. The loop's invariant is `Testing`. Assumes nothing.
use borrow.Author.Rules.{rules}
use Rattle.reachability.proofs.Testing.{neighbour_below, testing_start, testing_here, testing_next, testing_end}
use Rattle.reachability.proofs.adjacency.Adjacency.has_neighbour.Goals as goal

pub loop-q-init : goal.loop-q-init
loop-q-init c = search (testing_start, rules)

pub bounds-flags-q : goal.bounds-flags-q
bounds-flags-q c = search (neighbour_below, rules)

pub returns-then-flags-q : goal.returns-then-flags-q
returns-then-flags-q c = search (testing_here, rules)

pub loop-q-preserved : goal.loop-q-preserved
loop-q-preserved c = search (testing_next, rules)

pub returns : goal.returns
returns c = search (testing_end, rules)
