-- The sorted lines, where they are four with the top connection behind the others. Assumes nothing.
use mathlib.Core.Path.{ap₂}
use Rattle.layout.specs.Columns.{line_between}
use Rattle.ranking.specs.Arrays.{graph_in}
use Rattle.incidence.proofs.LinesFrom.{incoming_held}
use Rattle.incidence.proofs.sequence.incoming_cables.Goals as goal

pub returns : goal.returns
returns c = incoming_held _ _ _ c.by_column-lines.ensures (ap₂ (line_between (graph_in c.args.graph.now)) c.of.ensures c.of-2.ensures) c.set_apart.ensures
