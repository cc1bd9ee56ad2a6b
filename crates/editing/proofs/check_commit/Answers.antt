-- `editing::check_commit` meets its contract. Assumes nothing.
use Rattle.std.proofs.Common.{rules, Err}
use native.Mathlib.Omega.{arith}
use mathlib.Core.Path.{◌≡◌, sym, ap, ◌∙◌}
use Rattle.checks.specs.declared.Fault.TheVariants as faults
use Rattle.checks.specs.Checks.{Clear, refused}
use Rattle.station.specs.Checks.{list_checks}
use Rattle.checks.proofs.FirstRefusal.{refused_before}
use Rattle.editor.specs.Rows.{list_in}
use Rattle.editor.specs.Checks.{row_checks, commit_checks}
use Rattle.editor.proofs.Rows.{row_long}
use Rattle.editor.proofs.Verdicts.{row_verdict}
use Rattle.editor.proofs.Commits.{stale_refused, present_decides}
use Rattle.editing.proofs.check_commit.Goals as goal
use Rattle.editing.proofs.check_commit.Goals.{In_ok-check_row}

passed : (c : In_ok-check_row) → Clear list_checks (list_in c.args.row.now)
passed c = sym (row_verdict _) ∙ sym c.check_row.ensures ∙ c.in_ok-check_row.was

pub returns-in_err-check_row : goal.returns-in_err-check_row
unfolding commit_checks
returns-in_err-check_row c =
    let e : c.from_residual.result ≡ Err c.in_err-check_row.field-0.0 = search rules in
    e ∙ sym (refused_before _ row_checks _ _ _ (sym c.check_row.ensures ∙ c.in_err-check_row.was))

pub cables_present-present-requires : goal.cables_present-present-requires
cables_present-present-requires c = omega (arith, row_long _ (passed (goal.at.cables_present-present-requires c).In_ok-check_row))

pub returns-then-proposal-present : goal.returns-then-proposal-present
returns-then-proposal-present c = ap (refused faults.StaleProposal) c.cables_present-present.ensures ∙ sym (stale_refused _ _ (passed (goal.at.returns-then-proposal-present c).In_ok-check_row) (λ e. c.if-proposal-present.true (e ∙ sym c.cables_present-present.ensures)))

pub returns : goal.returns
returns c = c.check_new.ensures ∙ sym (present_decides _ _ (passed (goal.at.returns c).In_ok-check_row) (c.if-proposal-present.false ∙ c.cables_present-present.ensures))
