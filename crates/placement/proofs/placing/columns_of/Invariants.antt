-- The first k ranks stand. Assumes nothing.
use Rattle.placement.specs.Laid.{ColumnsOf}
use Rattle.placement.proofs.placing.columns_of.Given as goal

abbrev pub invariant-loop-k : goal.invariant-loop-k
invariant-loop-k l = ColumnsOf l.graph l.k l.columns
