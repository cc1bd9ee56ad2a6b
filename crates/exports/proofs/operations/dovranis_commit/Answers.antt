-- The editor's lay, its answer told. Assumes nothing.
use Rattle.std.proofs.Common.{ap, sym, ◌∙◌}
use Rattle.editor.specs.Operations.{Effect}
use Rattle.exports.proofs.Telling.{told_ok, told_err}
use Rattle.exports.proofs.operations.dovranis_commit.Goals as goal

pub returns-in-Ok : goal.returns-in-Ok
returns-in-Ok c = record { row = ap (λ (e : Effect). e.row) c.commit.ensures; told = told_ok _ _ _ (sym (ap (λ (e : Effect). e.verdict) c.commit.ensures) ∙ c.in-Ok.is) tt }

pub returns-in-Err : goal.returns-in-Err
returns-in-Err c =
    rw (c.refuse.ensures.0, c.refuse.ensures.1)
    (record { row = ap (λ (e : Effect). e.row) c.commit.ensures; told = told_err _ _ _ (sym (ap (λ (e : Effect). e.verdict) c.commit.ensures) ∙ c.in-Err.is) tt })
