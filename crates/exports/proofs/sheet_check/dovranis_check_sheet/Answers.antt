-- The call that holds a sheet against its list, its answer told. Assumes nothing.
use Rattle.exports.proofs.Telling.{told_ok, told_err}
use Rattle.exports.proofs.sheet_check.dovranis_check_sheet.Goals as goal

pub returns-in-Ok : goal.returns-in-Ok
returns-in-Ok c = record { verdict = _; does = c.check_sheet.ensures; told = told_ok _ _ _ c.in-Ok.is tt }

pub returns-in-Err : goal.returns-in-Err
returns-in-Err c = rw (c.refuse.ensures.0, c.refuse.ensures.1) (record { verdict = _; does = c.check_sheet.ensures; told = told_err _ _ _ c.in-Err.is tt })
