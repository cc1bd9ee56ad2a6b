-- What lies behind the list in a row counts for nothing: an answer depends on the list and on the row's length alone. Assumes nothing.
use Rattle.std.specs.Prelude.{Option, Ok, Err}
use Prim.Native.Nat.{ℕ}
use mathlib.Core.Path.{◌≡◌, refl, sym, ap, ap₂, ◌∙◌}
use mathlib.Core.List.{List, [], ◌∷◌, ◌++◌}
use lib.ListN.{length}
use Rattle.checks.specs.declared.Fault.TheVariants as faults
use Rattle.checks.specs.Checks.{Check, or_else, first_refusal, made_on, Verdict, passed}
use Rattle.checks.proofs.FirstRefusal.{rest_decides, refused_before, made_on_lem}
use Rattle.editor.specs.declared.Proposal.{Proposal}
use Rattle.editor.specs.Rows.{present, list_in}
use Rattle.editor.specs.Checks.{row_checks, cable_checks, check15, check16, new_checks, propose_checks, commit_checks}
use Rattle.editor.specs.Operations.{Commit, checks_of, effect, slip, answered, proposed}
use Rattle.editor.proofs.Rows.{present_is}

module _ (row other : List ℕ) (same : list_in row ≡ list_in other) (long : length row ≡ length other) where
  -- some checks say the same of both rows
  abbrev Alike : List Check → Type 0
  Alike checks = first_refusal checks row ≡ first_refusal checks other

  together : (cs ds : List Check) → Alike cs → Alike ds → Alike (cs ++ ds)
  together cs ds c d = go (first_refusal cs row) refl
    where
      go : (v : Verdict) → first_refusal cs row ≡ v → Alike (cs ++ ds)
      go (Ok u) e = rest_decides row cs ds e ∙ d ∙ sym (rest_decides other cs ds (sym c ∙ e))
      go (Err r) e = refused_before row cs ds r.fault r.place e ∙ sym (refused_before other cs ds r.fault r.place (sym c ∙ e))

  one_check : (c : Check) → c.finds row ≡ c.finds other → Alike (c ∷ [])
  unfolding first_refusal
  one_check c e = ap (λ (f : Option ℕ). or_else c.fault f passed) e

  of_list : (checks : List Check) → Alike (made_on list_in checks)
  of_list checks = made_on_lem list_in checks row ∙ ap (first_refusal checks) same ∙ sym (made_on_lem list_in checks other)

  present_same : present row ≡ present other
  present_same = sym (present_is row) ∙ ap present same ∙ present_is other

  new_same : (a b : ℕ) → Alike (new_checks a b)
  unfolding new_checks check16
  new_same a b =
      together (made_on list_in (cable_checks a b)) (record { fault = faults.RowFull; finds = check16 } ∷ []) (of_list (cable_checks a b))
      (one_check (record { fault = faults.RowFull; finds = check16 }) (rw (long, present_same)))

  propose_verdict : (a b : ℕ) → Alike (propose_checks a b)
  unfolding propose_checks row_checks
  propose_verdict a b = together row_checks (new_checks a b) (of_list _) (new_same a b)

  pub commit_same : (p : Proposal) → (effect (Commit p) row).verdict ≡ (effect (Commit p) other).verdict
  unfolding effect checks_of commit_checks row_checks check15
  commit_same p =
      together row_checks (record { fault = faults.StaleProposal; finds = check15 p.version } ∷ new_checks p.one p.other) (of_list _)
      (together (record { fault = faults.StaleProposal; finds = check15 p.version } ∷ []) (new_checks p.one p.other) (one_check (record { fault = faults.StaleProposal; finds = check15 p.version }) (rw present_same)) (new_same p.one p.other))

  pub propose_same : (a b : ℕ) → proposed a b row ≡ proposed a b other
  unfolding proposed effect checks_of slip
  propose_same a b = ap₂ (λ (v : Verdict) (m : ℕ). answered v (record { one = a; other = b; version = m })) (propose_verdict a b) present_same
