-- The editor's try, its answer told. Assumes nothing.
use Rattle.std.proofs.Common.{◌≡◌, ℕ, refl, ap, sym, ◌∙◌}
use Rattle.editor.specs.declared.Proposal.{Proposal}
use Rattle.editor.specs.Operations.{slip}
use Rattle.editor.proofs.Effects.{valid_passed}
use Rattle.exports.proofs.Telling.{told_ok, told_err}
use Rattle.exports.proofs.operations.dovranis_propose.Goals as goal

pub returns-in-Ok : goal.returns-in-Ok
unfolding slip
returns-in-Ok c =
    let q : c.in-Ok.proposal ≡ slip c.args.one c.args.other c.args.row.now = (valid_passed c.args.one c.args.other c.args.row.now (sym c.propose.ensures ∙ c.in-Ok.is)).1 in
    told_ok _ _ _ (sym c.propose.ensures ∙ c.in-Ok.is)
    (q ∙ ap (λ (v : ℕ). record { one = c.args.one; other = c.args.other; version = v }) (sym (ap (λ (p : Proposal). p.version) q)))

pub returns-in-Err : goal.returns-in-Err
returns-in-Err c = rw (c.refuse.ensures.0, c.refuse.ensures.1) (told_err _ _ _ (sym c.propose.ensures ∙ c.in-Err.is) refl)
