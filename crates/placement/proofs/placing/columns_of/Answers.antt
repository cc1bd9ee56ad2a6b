-- The first k ranks stand. Assumes nothing.
use Rattle.ranking.proofs.GraphArrays.{graph_fits, lines_count}
use Rattle.placement.proofs.Standing.{columns_start}
use Rattle.placement.proofs.placing.columns_of.Goals as goal

pub loop-k-init : goal.loop-k-init
loop-k-init c = columns_start (graph_fits c.args.graph.now) (lines_count c.args.graph.now)
