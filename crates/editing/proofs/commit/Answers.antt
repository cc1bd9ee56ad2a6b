-- `editing::commit` meets its contract. Assumes nothing.
use Rattle.std.proofs.Common.{rules, Err}
use Rattle.checks.specs.Checks.{Verdict, passed}
use mathlib.Core.Path.{◌≡◌, sym, ap, ◌∙◌}
use Rattle.editor.proofs.Commits.{Fit, commit_fits, head_fits}
use Rattle.editor.proofs.Effects.{commit_refused, commit_stored}
use Rattle.editing.proofs.commit.Goals as goal
use Rattle.editing.proofs.commit.Goals.{In_ok-check_commit}

-- what passed is fit to be stored
fit : (c : In_ok-check_commit) → Fit c.args.proposal c.args.row.now
fit c = commit_fits _ _ (sym c.check_commit.ensures ∙ c.in_ok-check_commit.was)

pub returns-in_err-check_commit : goal.returns-in_err-check_commit
returns-in_err-check_commit c =
    let e : c.from_residual.result ≡ Err c.in_err-check_commit.field-0.0 = search rules in
    ap (λ (v : Verdict). record { verdict = v; row = c.args.row.now }) e
    ∙ sym (commit_refused _ _ _ _ (sym c.check_commit.ensures ∙ c.in_err-check_commit.was))

pub store_cable-requires : goal.store_cable-requires
store_cable-requires c = let F = fit (goal.at.store_cable-requires c).In_ok-check_commit in record { fields = record { first = F.one; second = F.other }; room = F.room; counted = head_fits F }

pub returns : goal.returns
returns c = ap (λ (row : _). record { verdict = passed; row = row }) c.store_cable.ensures ∙ sym (commit_stored _ _ (sym c.check_commit.ensures ∙ c.in_ok-check_commit.was))
