-- What a lay that passes its checks leaves to be stored, and that a slip just given passes them. Assumes nothing.
use Rattle.checks.specs.declared.Fault.{Fault}
use Prim.Native.Nat.{ℕ, ◌+◌, ◌<◌, ◌≤◌}
use mathlib.Core.Path.{◌≡◌, refl, sym, ◌∙◌}
use mathlib.Core.List.Memᴰ
use mathlib.Core.List.{List, [], ◌∷◌}
use borrow.Author.Tests.{leb-false, eqb-true, eq-eqb, ne_eqb, not-false}
use lib.ListN.{length}
use lib.Dec.{eqb}
use Rattle.words.specs.Limits.{most_field}
use Rattle.checks.specs.declared.Fault.TheVariants as faults
use Rattle.checks.specs.Checks.{Check, or_else, first_refusal, Clear, at_when, made_on, refused}
use Rattle.station.specs.Checks.{list_checks}
use Rattle.checks.proofs.FirstRefusal.{rest_decides, first_found, refused_before, clear_prefix, clear_rest, clear_each, at_when_nothing, made_on_lem}
use Rattle.editor.specs.declared.Proposal.{Proposal}
use Rattle.editor.specs.Rows.{present, list_in, longer}
use Rattle.editor.specs.Checks.{row_checks, cable_checks, check15, check16, new_checks, propose_checks, commit_checks}
use Rattle.editor.specs.Operations.{slip}
use Rattle.editor.proofs.Rows.{head_is}
use Rattle.editor.proofs.Longer.{few}
use Rattle.editor.proofs.Verdicts.{row_verdict, cable_fits}

-- a slip that passes: it is the list's, its cable has room in its word and in the row, and the longer list passes
pub record Fit (p : Proposal) (row : List ℕ) : Type 0 where
  pub passed : Clear list_checks (list_in row)
  pub version : p.version ≡ present row
  pub one : p.one ≤ most_field
  pub other : p.other ≤ most_field
  pub passes : Clear list_checks (longer p.one p.other (list_in row))
  pub room : present row + 2 < length row

-- and its head has room for one more
pub head_fits : {p : Proposal} {row : List ℕ} → Fit p row → present row + 1 < 65536
unfolding present
head_fits {p} {row} F = rw (← head_is row) (few (list_in row) F.passed)

-- the checks of a commit behind those of the list as it is
abbrev new_commit : Proposal → List Check
new_commit p = record { fault = faults.StaleProposal; finds = check15 p.version } ∷ new_checks p.one p.other

abbrev room_check : List Check
room_check = record { fault = faults.RowFull; finds = check16 } ∷ []

module _ (p : Proposal) (row : List ℕ) (C : Clear (commit_checks p) row) where
  new : Clear (new_commit p) row
  unfolding commit_checks
  new = clear_rest row row_checks (new_commit p) C

  of_new : Clear (new_checks p.one p.other) row
  of_new = clear_rest row (record { fault = faults.StaleProposal; finds = check15 p.version } ∷ []) (new_checks p.one p.other) new

  of_cable : Clear (cable_checks p.one p.other) (list_in row)
  unfolding new_checks
  of_cable =
      sym (made_on_lem list_in (cable_checks p.one p.other) row) ∙ clear_prefix row (made_on list_in (cable_checks p.one p.other)) room_check of_new

  last : Clear room_check row
  unfolding new_checks
  last = clear_rest row (made_on list_in (cable_checks p.one p.other)) room_check of_new

  pub commit_fits : Fit p row
  unfolding commit_checks check15 check16
  commit_fits =
      let f = cable_fits p.one p.other (list_in row) of_cable in
      record {
        passed = sym (row_verdict row) ∙ clear_prefix row row_checks (new_commit p) C;
        version = eqb-true p.version (present row) (not-false (eqb p.version (present row)) (at_when_nothing _ _ (clear_each row (new_commit p) new (Memᴰ.head refl))));
        one = f.0;
        other = f.1;
        passes = f.2;
        room = leb-false (length row) (present row + 2) (at_when_nothing _ _ (clear_each row room_check last (Memᴰ.head refl)));
      }

-- a refusal of the list as it is
pub row_refused : (p : Proposal) (row : List ℕ) (check : Fault) (place : ℕ) → first_refusal row_checks row ≡ refused check place → first_refusal (commit_checks p) row ≡ refused check place
unfolding commit_checks
row_refused p row check place e = refused_before row row_checks (new_commit p) check place e

-- 15: a slip of another version
pub stale_refused : (p : Proposal) (row : List ℕ) → Clear list_checks (list_in row) → (p.version ≡ present row → ⊥) → first_refusal (commit_checks p) row ≡ refused faults.StaleProposal (present row)
unfolding commit_checks check15 at_when
stale_refused p row C h =
    first_found row row_checks (record { fault = faults.StaleProposal; finds = check15 p.version }) (new_checks p.one p.other) (present row) (row_verdict row ∙ C)
    (rw (ne_eqb p.version (present row) h))

-- of the present version: what is said of the new cable
pub present_decides : (p : Proposal) (row : List ℕ) → Clear list_checks (list_in row) → p.version ≡ present row
    → first_refusal (commit_checks p) row ≡ first_refusal (new_checks p.one p.other) row
unfolding commit_checks check15 at_when first_refusal or_else
present_decides p row C e =
    rest_decides row row_checks (new_commit p) (row_verdict row ∙ C)
    ∙ rw (eq-eqb p.version (present row) e)

-- a slip is laid on the row for which it was given
pub fresh_passes : (one other : ℕ) (row : List ℕ) → Clear (propose_checks one other) row → Clear (commit_checks (slip one other row)) row
unfolding propose_checks slip
fresh_passes one other row C =
    present_decides (slip one other row) row (sym (row_verdict row) ∙ clear_prefix row row_checks (new_checks one other) C) refl
    ∙ clear_rest row row_checks (new_checks one other) C
