-- The call that draws, its answer told. Assumes nothing.
use Rattle.exports.proofs.Calls.{called}
use Rattle.exports.proofs.dovranis_draw_quoted.Goals as goal

pub returns : goal.returns
returns c = called c.quoted.ensures c.draw.ensures c.tell.ensures
