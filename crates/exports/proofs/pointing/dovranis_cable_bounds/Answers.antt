-- The call for a cable's box, its answer told. Assumes nothing.
use Rattle.std.proofs.Common.{refl}
use Rattle.exports.proofs.Telling.{told_ok, told_err}
use Rattle.exports.proofs.pointing.dovranis_cable_bounds.Goals as goal

pub returns-in-Ok : goal.returns-in-Ok
returns-in-Ok c = record { answer = _; does = c.cable_bounds.ensures; told = told_ok _ _ _ c.in-Ok.is refl }

pub returns-in-Err : goal.returns-in-Err
returns-in-Err c = rw (c.refuse.ensures.0, c.refuse.ensures.1) (record { answer = _; does = c.cable_bounds.ensures; told = told_err _ _ _ c.in-Err.is refl })
