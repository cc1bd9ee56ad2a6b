-- `editing::check_new` meets its contract. Assumes nothing.
use Rattle.std.proofs.Common.{rules, Err}
use native.Mathlib.Omega.{arith}
use mathlib.Core.Path.{◌≡◌, sym, ap, ◌∙◌}
use lib.Seq.{length-take-le}
use Rattle.checks.specs.Checks.{first_refusal, Clear}
use Rattle.station.specs.Checks.{list_checks}
use Rattle.editor.specs.Rows.{list_in}
use Rattle.editor.specs.Checks.{cable_checks}
use Rattle.editor.proofs.Rows.{length_is, length_due, taken}
use Rattle.editor.proofs.Verdicts.{row_verdict, cable_refused, no_room, new_passed}
use Rattle.editing.proofs.check_new.Goals as goal
use Rattle.editing.proofs.check_new.Goals.{After-check_cable, After-list_length-length}

passed : (c : After-list_length-length) → Clear list_checks (list_in c.args.row.now)
passed c = sym (row_verdict _) ∙ c.requires

-- what is said of the list's part of the row is said of the list
cable_verdict : (c : After-check_cable)
    → first_refusal (cable_checks c.args.one c.args.other) (list_in c.args.row.now) ≡ c.check_cable.result
cable_verdict c = ap (first_refusal _) (sym (taken _ c.list_length-length.ensures)) ∙ sym c.check_cable.ensures

pub slice_bounds-check_cable-end : goal.slice_bounds-check_cable-end
slice_bounds-check_cable-end c = sym (length-take-le _ _ (omega (arith, c.list_length-length.ensures, length_is c.args.row.now)))

pub check_cable-requires : goal.check_cable-requires
check_cable-requires c = rw (taken _ c.list_length-length.ensures) (passed (goal.at.check_cable-requires c).After-list_length-length)

pub returns-in_err-check_cable : goal.returns-in_err-check_cable
returns-in_err-check_cable c =
    let e : c.from_residual.result ≡ Err c.in_err-check_cable.field-0.0 = search rules in
    e ∙ sym (cable_refused _ _ _ _ _ (cable_verdict (goal.at.returns-in_err-check_cable c).After-check_cable ∙ c.in_err-check_cable.was))

pub returns-then-row-length : goal.returns-then-row-length
returns-then-row-length c = sym (no_room _ _ _ (cable_verdict (goal.at.returns-then-row-length c).After-check_cable ∙ c.in_ok-check_cable.was) (omega (arith, c.list_length-length.ensures, length_due _ (passed (goal.at.returns-then-row-length c).After-list_length-length))))

pub returns : goal.returns
returns c = sym (new_passed _ _ _ (cable_verdict (goal.at.returns c).After-check_cable ∙ c.in_ok-check_cable.was) (omega (arith, c.list_length-length.ensures, length_due _ (passed (goal.at.returns c).After-list_length-length))))
