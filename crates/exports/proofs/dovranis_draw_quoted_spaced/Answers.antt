-- The call that draws, with a discount and a spacing, its answer told. Assumes nothing.
use Rattle.exports.proofs.Calls.{called_spaced}
use Rattle.exports.proofs.dovranis_draw_quoted_spaced.Goals as goal

pub returns : goal.returns
returns c = called_spaced c.spaced-options.ensures c.of.ensures c.quoted.ensures c.draw.ensures c.tell.ensures
