-- The fourth outgoing cable of s. Assumes nothing.
use Rattle.ranking.proofs.GraphArrays.{graph_fits, lines_count}
use Rattle.placement.proofs.Lanes.{bottom_reads}
use Rattle.placement.proofs.connections.bottom_line.Goals as goal

pub returns : goal.returns
returns c =
    bottom_reads (graph_fits c.args.graph.now).ranked c.of.ensures c.outgoing_cables.ensures (lines_count c.args.graph.now) c.fourth_or.ensures
