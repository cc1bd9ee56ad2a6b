-- Each arm stores what its answer holds, and the result says which arm. Assumes nothing.
use Rattle.std.proofs.Common.{refl}
use Rattle.exports.proofs.Telling.{told_ok, told_err}
use Rattle.exports.proofs.tell.Goals as goal

pub returns-in-Ok : goal.returns-in-Ok
returns-in-Ok c = told_ok _ _ _ c.in-Ok.is (refl, refl)

pub returns-in-Err : goal.returns-in-Err
returns-in-Err c = rw (c.refuse.ensures.0, c.refuse.ensures.1) (told_err _ _ _ c.in-Err.is (refl, refl))
