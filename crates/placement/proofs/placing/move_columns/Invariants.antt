-- The columns below i are moved. Assumes nothing.
use lib.ListN.{get_or}
use Rattle.lists.proofs.Fill.{Filled}
use Rattle.placement.specs.Placements.{moved_by}
use Rattle.placement.proofs.placing.move_columns.Given as goal

abbrev pub invariant-loop-column : goal.invariant-loop-column
invariant-loop-column l = Filled (λ j. moved_by l.placement (get_or l.fn.columns j 0)) 0 l.column-index l.fn.columns l.column-items
