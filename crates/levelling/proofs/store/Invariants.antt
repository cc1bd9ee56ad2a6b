-- `levelling::store` meets its contract. The loop's invariant is `Passing`. Assumes nothing.
use Rattle.levelling.proofs.Passing.{Passing}
use Rattle.levelling.proofs.store.Given as goal

abbrev pub invariant-loop-part : goal.invariant-loop-part
invariant-loop-part l = Passing l.list l.sorts l.adjacency.table l.part-items l.output l.passed l.part-index
