-- The sorted lines, where they are four with the bottom connection behind the others. Assumes nothing.
use mathlib.Core.Path.{ap₂}
use Rattle.layout.specs.Columns.{line_between}
use Rattle.ranking.specs.Arrays.{graph_in}
use Rattle.incidence.proofs.LinesFrom.{outgoing_held}
use Rattle.incidence.proofs.sequence.outgoing_cables.Goals as goal

pub returns : goal.returns
returns c = outgoing_held _ _ c.by_rank.ensures (ap₂ (line_between (graph_in c.args.graph.now)) c.of.ensures c.of-2.ensures) c.set_apart.ensures
