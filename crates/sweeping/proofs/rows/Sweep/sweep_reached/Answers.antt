-- `sweeping::rows::Sweep::sweep_reached` meets its contract. Assumes nothing.
use mathlib.Core.Path.{sym, ◌∙◌}
use Rattle.directions.proofs.Choosing.{line_inside, line_small, strand_inside}
use Rattle.sweeping.proofs.RowSteps.{none_swept, swept_strand}
use Rattle.sweeping.proofs.rows.Sweep.sweep_reached.Goals as goal

pub of-strand-requires : goal.of-strand-requires
of-strand-requires c = record { line_in_bounds = line_inside c.requires.corners; line_bound = line_small c.requires.corners }

pub over-requires : goal.over-requires
over-requires c = strand_inside c.requires.corners _ c.of-strand.result c.of-strand.ensures

pub returns-then-reaches : goal.returns-then-reaches
returns-then-reaches c =
    swept_strand c.args.self.now.sweepable c.args.line c.requires.is_line c.of-strand.ensures c.requires.corners c.over.ensures c.sweep_line.ensures

pub returns-else-reaches : goal.returns-else-reaches
returns-else-reaches c =
    none_swept _ _ (c.args.self.now.outside.outside c.args.line c.requires.is_line c.args.boards.now.row (sym c.reaches.ensures ∙ c.if-reaches.false))
