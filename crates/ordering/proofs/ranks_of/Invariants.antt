-- `ordering::ranks_of` meets its contract. The loop's invariant is `Filling`. Assumes nothing.
use Rattle.ordering.specs.Numbers.{part_numbers}
use Rattle.ordering.proofs.Filling.{Filling}
use Rattle.ordering.proofs.ranks_of.Given as goal

abbrev pub invariant-loop-k : goal.invariant-loop-k
invariant-loop-k l = Filling (part_numbers l.part) l.n l.rank l.k
