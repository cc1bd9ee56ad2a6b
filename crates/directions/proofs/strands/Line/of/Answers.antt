-- `directions::strands::Line::of` meets its contract. Assumes nothing.
use mathlib.Core.Path.{◌∙◌}
use Rattle.directions.proofs.Choosing.{line_inside, line_small, strand_inside, trace_read}
use Rattle.directions.proofs.strands.Line.of.Goals as goal

pub of-requires-clause-line_in_bounds : goal.of-requires-clause-line_in_bounds
of-requires-clause-line_in_bounds c = line_inside c.requires

pub of-requires-clause-line_bound : goal.of-requires-clause-line_bound
of-requires-clause-line_bound c = line_small c.requires

pub over-requires : goal.over-requires
over-requires c = strand_inside c.requires c.args.forward c.of.result c.of.ensures

pub returns : goal.returns
returns c = c.over.ensures ∙ trace_read c.requires c.args.forward c.of.ensures
