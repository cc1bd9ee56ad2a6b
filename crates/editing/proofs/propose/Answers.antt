-- `editing::propose` meets its contract. Assumes nothing.
use Rattle.std.proofs.Common.{rules, Err}
use native.Mathlib.Omega.{arith}
use mathlib.Core.Path.{◌≡◌, sym, ◌∙◌}
use Rattle.checks.specs.Checks.{Clear}
use Rattle.checks.proofs.FirstRefusal.{refused_before, rest_decides}
use Rattle.editor.specs.Checks.{row_checks, new_checks, propose_checks}
use Rattle.editor.specs.Operations.{slip}
use Rattle.editor.proofs.Rows.{row_long}
use Rattle.editor.proofs.Verdicts.{row_verdict}
use Rattle.editor.proofs.Effects.{proposed_refused, proposed_valid}
use Rattle.editing.proofs.propose.Goals as goal
use Rattle.editing.proofs.propose.Goals.{In_ok-check_row}

passed : (c : In_ok-check_row) → Clear row_checks c.args.row.now
passed c = sym c.check_row.ensures ∙ c.in_ok-check_row.was

pub returns-in_err-check_row : goal.returns-in_err-check_row
unfolding propose_checks
returns-in_err-check_row c =
    let e : c.from_residual.result ≡ Err c.in_err-check_row.field-0.0 = search rules in
    e ∙ sym (proposed_refused _ _ _ _ _ (refused_before _ row_checks (new_checks _ _) _ _ (sym c.check_row.ensures ∙ c.in_err-check_row.was)))

pub returns-in_err-check_new : goal.returns-in_err-check_new
unfolding propose_checks
returns-in_err-check_new c =
    let e : c.from_residual-in_err-check_new.result ≡ Err c.in_err-check_new.field-0.0 = search rules in
    e ∙ sym (proposed_refused _ _ _ _ _ (rest_decides _ row_checks (new_checks _ _) (passed (goal.at.returns-in_err-check_new c).In_ok-check_row) ∙ sym c.check_new.ensures ∙ c.in_err-check_new.was))

pub cables_present-version-requires : goal.cables_present-version-requires
cables_present-version-requires c = omega (arith, row_long _ (sym (row_verdict _) ∙ passed (goal.at.cables_present-version-requires c).In_ok-check_row))

pub returns : goal.returns
unfolding propose_checks slip
returns c = rw c.cables_present-version.ensures (sym (proposed_valid _ _ _ (rest_decides _ row_checks (new_checks _ _) (passed (goal.at.returns c).In_ok-check_row) ∙ sym c.check_new.ensures ∙ c.in_ok-check_new.was)))
