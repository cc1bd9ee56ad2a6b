-- The call that draws, its answer told. Assumes nothing.
use Rattle.exports.proofs.Calls.{called}
use Rattle.exports.proofs.dovranis_draw.Goals as goal

pub returns : goal.returns
returns c = called c.plain.ensures c.draw.ensures c.tell.ensures
