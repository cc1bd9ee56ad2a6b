-- Each end has a row more exactly where it has a connection. Assumes nothing.
use mathlib.Core.Path.{◌∙◌}
use Rattle.ranking.proofs.GraphArrays.{graph_fits, lines_count}
use Rattle.placement.proofs.Lanes.{one_more, ends_read}
use Rattle.placement.proofs.connections.connections_of.Goals as goal

pub returns : goal.returns
returns c =
    ends_read (graph_fits c.args.graph.now).ranked (lines_count c.args.graph.now) c.bottom_line-bottom_line.ensures c.top_line-top_line.ensures
    (c.from.ensures ∙ one_more _) (c.from-2.ensures ∙ one_more _)
