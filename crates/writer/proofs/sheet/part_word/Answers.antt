-- The rank's spot as it is spaced, which fits its fields. Assumes nothing.
use native.Mathlib.Omega.{arith}
use mathlib.Core.Path.{sym, ap, ◌∙◌}
use Rattle.geometry.specs.Spots.{Spot}
use Rattle.drawing.specs.Spacing.{spaced_spot}
use Rattle.drawing.specs.Sheet.{part_spot_word}
use Rattle.placement.proofs.Layouts.{spot_at_lem, bottom_small}
use Rattle.writer.proofs.Layouts.{spot_small}
use Rattle.writer.proofs.sheet.part_word.Goals as goal

pub overflow_add-spot : goal.overflow_add-spot
overflow_add-spot c = omega (arith, bottom_small c.args.layout.now, c.args.layout.now.graph.is_ranked.few_parts, c.requires.k_lt_parts)

pub space_spot-there-requires : goal.space_spot-there-requires
space_spot-there-requires c =
    record { spacing_value = c.requires.fits.spacing; fits = spot_small c.args.layout.now c.args.spacing c.requires.fits c.args.k.0 c.requires.k_lt_parts }

pub part-requires : goal.part-requires
unfolding spaced_spot
part-requires c =
    let F = spot_small c.args.layout.now c.args.spacing c.requires.fits c.args.k.0 c.requires.k_lt_parts in
    let e = c.space_spot-there.ensures in
    (omega (arith, F.0, ap (λ (p : Spot). p.x) e), omega (arith, F.1, ap (λ (p : Spot). p.y) e))

pub returns : goal.returns
unfolding part_spot_word
returns c =
    c.part.ensures
    ∙ ap part_spot_word (c.space_spot-there.ensures ∙ ap (spaced_spot c.args.spacing) (sym (spot_at_lem c.args.layout.now c.args.k.0 c.requires.k_lt_parts)))
