-- What an operation does, from what its checks say. Assumes nothing.
use Rattle.checks.specs.declared.Fault.{Fault}
use Rattle.std.specs.Prelude.{Ok, Err}
use Prim.Native.Nat.{ℕ}
use native.Mathlib.Omega.{arith}
use mathlib.Core.Path.{◌≡◌, refl, sym, ap, ◌∙◌, ap₂, subst}
use mathlib.Core.List.{List}
use Rattle.checks.specs.Checks.{first_refusal, Verdict, passed, refused}
use Rattle.checks.proofs.FirstRefusal.{same_fault, same_place}
use Rattle.editor.specs.declared.Proposal.{Proposal}
use Rattle.editor.specs.Checks.{propose_checks, commit_checks}
use Rattle.editor.proofs.Commits.{fresh_passes}
use Rattle.editor.specs.Operations.{Operation, Propose, Commit, checks_of, stored, leaves, Effect, effect, slip, answered, proposed}

pub effect_is : (operation : Operation) (row : List ℕ) {verdict : Verdict} → first_refusal (checks_of operation) row ≡ verdict
    → effect operation row ≡ record { verdict = verdict; row = leaves operation verdict row }
unfolding effect
effect_is operation row e = rw e refl

module _ (one other : ℕ) (row : List ℕ) where
  pub proposed_refused : (check : Fault) (place : ℕ) → first_refusal (propose_checks one other) row ≡ refused check place → proposed one other row ≡ refused check place
  unfolding proposed checks_of
  proposed_refused check place e = ap (λ (f : Effect). answered f.verdict (slip one other row)) (effect_is (Propose one other) row e)

  pub proposed_valid : first_refusal (propose_checks one other) row ≡ passed → proposed one other row ≡ Ok (slip one other row)
  unfolding proposed checks_of
  proposed_valid e = ap (λ (f : Effect). answered f.verdict (slip one other row)) (effect_is (Propose one other) row e)

module _ (p : Proposal) (row : List ℕ) where
  pub commit_verdict : (effect (Commit p) row).verdict ≡ first_refusal (commit_checks p) row
  unfolding effect checks_of
  commit_verdict = refl

  pub commit_refused : (check : Fault) (place : ℕ) → first_refusal (commit_checks p) row ≡ refused check place → effect (Commit p) row ≡ record { verdict = refused check place; row = row }
  unfolding checks_of leaves
  commit_refused check place e = effect_is (Commit p) row e

  pub commit_stored : first_refusal (commit_checks p) row ≡ passed → effect (Commit p) row ≡ record { verdict = passed; row = stored p row }
  unfolding checks_of leaves
  commit_stored e = effect_is (Commit p) row e

-- and the other way round: what an answer says of the checks
module _ (one other : ℕ) (row : List ℕ) where
  pub valid_passed : {p : Proposal} → proposed one other row ≡ Ok p → (first_refusal (propose_checks one other) row ≡ passed) × (p ≡ slip one other row)
  valid_passed {p} e = go (first_refusal (propose_checks one other) row) refl
    where
      go : (v : Verdict) → first_refusal (propose_checks one other) row ≡ v → (first_refusal (propose_checks one other) row ≡ passed) × (p ≡ slip one other row)
      go (Ok u) f = (f, cc (sym e ∙ proposed_valid one other row f))
      go (Err r) f = let g = sym (proposed_refused one other row r.fault r.place f) ∙ e in let z : ◌≡◌ {A = ℕ} 0 1 = cc in absurd (omega arith)

  pub refused_refused : {check : Fault} {place : ℕ} → proposed one other row ≡ refused check place → first_refusal (propose_checks one other) row ≡ refused check place
  refused_refused {check} {place} e = go (first_refusal (propose_checks one other) row) refl
    where
      go : (v : Verdict) → first_refusal (propose_checks one other) row ≡ v → first_refusal (propose_checks one other) row ≡ refused check place
      go (Ok u) f = let g = sym (proposed_valid one other row f) ∙ e in let z : ◌≡◌ {A = ℕ} 0 1 = cc in absurd (omega arith)
      go (Err s) f =
          let g = sym (proposed_refused one other row s.fault s.place f) ∙ e in
          f ∙ ap₂ refused (same_fault g) (same_place g)

-- a slip is laid on the row for which it was given
pub fresh_commits : (one other : ℕ) (row : List ℕ) (p : Proposal) → proposed one other row ≡ Ok p → effect (Commit p) row ≡ record { verdict = passed; row = stored p row }
fresh_commits one other row p e =
    let v = valid_passed one other row e in
    subst (λ (s : Proposal). effect (Commit s) row ≡ record { verdict = passed; row = stored s row }) (sym v.1) (commit_stored (slip one other row) row (fresh_passes one other row v.0))
