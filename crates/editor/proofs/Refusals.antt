-- Which refusals each operation gives, and a row that always has room. Assumes nothing.
use Rattle.checks.specs.declared.Fault.{Fault}
use Rattle.std.specs.Prelude.{Ok, Err}
use Prim.Native.Nat.{ℕ, ◌+◌, ◌*◌, ◌<◌, ◌≤◌}
use native.Mathlib.Omega.{arith}
use native.Mathlib.Decide.{ℕ_discrete, dec_lt}
use mathlib.Core.Path.{◌≡◌, refl, sym, ap, ◌∙◌, subst}
use mathlib.Core.Logic.{◌⊎◌, inl, inr}
use mathlib.Core.List.{List, [], ◌∷◌, Memᴰ}
use lib.ListN.{length, get_or}
use Rattle.lists.specs.Select.{up_from}
use Rattle.words.specs.Words.{parts_of}
use Rattle.station.specs.Station.{station_of}
use Rattle.checks.specs.Checks.{first_refusal, Clear, Verdict, passed, refused, number_of}
use Rattle.station.specs.Checks.{list_checks}
use Rattle.checks.specs.declared.Fault.TheVariants as faults
use Rattle.checks.proofs.FirstRefusal.{rest_decides, refused_before, same_fault}
use Rattle.station.proofs.Numbers.{Numbered, without_7, list_number}
use Rattle.station.proofs.Cables.{parts_are, cables_count}
use Rattle.station.proofs.Passed.{wired, cables_few}
use Rattle.editor.specs.declared.Proposal.{Proposal}
use Rattle.editor.specs.Rows.{present, list_in, longer}
use Rattle.editor.specs.Checks.{row_checks, cable_checks, new_checks, propose_checks, commit_checks}
use Rattle.editor.proofs.Rows.{head_is, length_due}
use Rattle.editor.proofs.Longer.{length_longer, parts_longer}
use Rattle.editor.proofs.Verdicts.{row_verdict, cable_fits, cable_refused, no_room, new_passed, among_5_6_8}
use Rattle.editor.proofs.Commits.{row_refused, stale_refused, present_decides}

-- trying: 1 to 8 without 7, or 16
abbrev pub WhenProposed : Fault → Type 0
WhenProposed check = Numbered 8 (number_of check) ⊎ (check ≡ faults.RowFull)

-- laying: these, or 15
abbrev pub WhenCommitted : Fault → Type 0
WhenCommitted check = WhenProposed check ⊎ (check ≡ faults.StaleProposal)

-- one of 5, 6 and 8 is one of 1 to 8
of_list : (check : Fault) → Memᴰ (number_of check) (5 ∷ 6 ∷ 8 ∷ []) → Numbered 8 (number_of check)
unfolding up_from
of_list check m = without_7 1 (Memᴰ.tail (Memᴰ.tail (Memᴰ.tail (Memᴰ.tail m))))

same_check : {v : Verdict} {check : Fault} {place : ℕ} {n : Fault} {p : ℕ} → v ≡ refused check place → v ≡ refused n p → check ≡ n
same_check e f = same_fault (sym e ∙ f)

never_passed : {v : Verdict} {check : Fault} {place : ℕ} → v ≡ refused check place → v ≡ passed → ⊥
never_passed e f = let z : ◌≡◌ {A = ℕ} 0 1 = cc in omega arith

module _ (one other : ℕ) (row : List ℕ) (C : Clear list_checks (list_in row)) where
  new_numbers : {check : Fault} {place : ℕ} → first_refusal (new_checks one other) row ≡ refused check place → WhenProposed check
  new_numbers {check} {place} e = go (first_refusal (cable_checks one other) (list_in row)) refl
    where
      room : Clear (cable_checks one other) (list_in row) → Dec (present row + 2 < length row) → WhenProposed check
      room f (yes h) = absurd (never_passed e (new_passed one other row f h))
      room f (no h) = inr (same_check e (no_room one other row f (omega arith)))

      go : (v : Verdict) → first_refusal (cable_checks one other) (list_in row) ≡ v → WhenProposed check
      go (Ok u) f = room f (dec_lt (present row + 2) (length row))
      go (Err r) f =
          let q = same_check e (cable_refused one other row r.fault r.place f) in
          let b = among_5_6_8 (list_in row) C one other f in
          inl (subst (λ (c : Fault). Numbered 8 (number_of c)) (sym q) (of_list r.fault b))

module _ (row : List ℕ) where
  row_numbers : {check : Fault} {place : ℕ} → first_refusal row_checks row ≡ refused check place → Numbered 8 (number_of check)
  row_numbers e = list_number (list_in row) (sym (row_verdict row) ∙ e)

  list_passes : Clear row_checks row → Clear list_checks (list_in row)
  list_passes f = sym (row_verdict row) ∙ f

  pub propose_refusals : (one other : ℕ) {check : Fault} {place : ℕ} → first_refusal (propose_checks one other) row ≡ refused check place → WhenProposed check
  unfolding propose_checks
  propose_refusals one other {check} e = go (first_refusal row_checks row) refl
    where
      go : (v : Verdict) → first_refusal row_checks row ≡ v → WhenProposed check
      go (Ok u) f = new_numbers one other row (list_passes f) (sym (rest_decides row row_checks (new_checks one other) f) ∙ e)
      go (Err r) f =
          let q = same_check e (refused_before row row_checks (new_checks one other) r.fault r.place f) in
          inl (subst (λ (c : Fault). Numbered 8 (number_of c)) (sym q) (row_numbers f))

  pub commit_refusals : (p : Proposal) {check : Fault} {place : ℕ} → first_refusal (commit_checks p) row ≡ refused check place → WhenCommitted check
  commit_refusals p {check} {place} e = go (first_refusal row_checks row) refl
    where
      version : Clear list_checks (list_in row) → Dec (p.version ≡ present row) → WhenCommitted check
      version C (yes h) = inl (new_numbers p.one p.other row C (sym (present_decides p row C h) ∙ e))
      version C (no h) = inr (same_check e (stale_refused p row C h))

      go : (v : Verdict) → first_refusal row_checks row ≡ v → WhenCommitted check
      go (Ok u) f = version (list_passes f) (ℕ_discrete p.version (present row))
      go (Err r) f =
          let k = same_check e (row_refused p row r.fault r.place f) in
          inl (inl (subst (λ (c : Fault). Numbered 8 (number_of c)) (sym k) (row_numbers f)))

-- in a row of 2n + 2 words there is room for every cable that passes its checks, so that 16 never comes
pub always_room : (one other : ℕ) (row : List ℕ) → Clear list_checks (list_in row) → Clear (cable_checks one other) (list_in row)
    → 2 * parts_of (get_or row 0 0) + 2 ≤ length row → present row + 2 < length row
always_room one other row C D h =
    let f = cable_fits one other (list_in row) D in
    let new = longer one other (list_in row) in
    let p : (station_of new).parts ≡ parts_of (get_or row 0 0) = parts_are new ∙ parts_longer (list_in row) C one other f.0 f.1 ∙ ap parts_of (head_is row) in
    omega (
      arith,
      h,
      p,
      cables_few (station_of new) (wired new f.2),
      cables_count new,
      length_longer (list_in row) C one other f.0 f.1,
      length_due row C,
    )
