-- The fourth incoming cable of t. Assumes nothing.
use Rattle.ranking.proofs.GraphArrays.{graph_fits, lines_count}
use Rattle.placement.proofs.Lanes.{top_reads}
use Rattle.placement.proofs.connections.top_line.Goals as goal

pub returns : goal.returns
returns c =
    top_reads (graph_fits c.args.graph.now).ranked c.args.columns.now.cables c.of-last.ensures c.incoming_cables.ensures
    (lines_count c.args.graph.now) c.fourth_or.ensures
