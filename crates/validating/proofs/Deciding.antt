-- What the checks of a sheet decide, one behind the other: of the list, of the layout, and of the rules. Assumes nothing.
use Rattle.std.specs.Prelude.{Option, Some, None, Result, Ok, Err, ⊤}
use Prim.Native.Nat.{ℕ}
use native.Mathlib.Omega.{arith}
use mathlib.Core.Path.{◌≡◌, refl, sym, ap, ◌∙◌}
use mathlib.Core.List.{List, [], ◌∷◌}
use lib.ListN.{length}
use Rattle.std.specs.Result.{IsErrAnd}
use Rattle.checks.specs.declared.Fault.{Fault}
use Rattle.checks.specs.declared.Fault.TheVariants as faults
use Rattle.checks.specs.declared.Refusal.{Refusal}
use Rattle.checks.specs.Checks.{Clear, Verdict, passed, or_else}
use Rattle.checks.proofs.FirstRefusal.{refused_next}
use Rattle.station.specs.Station.{station_of}
use Rattle.order.specs.Checks.{all_checks}
use Rattle.validation.specs.Layout.{check19, Follows}
use Rattle.validation.specs.Rules.{check20}
use Rattle.validation.specs.Outcome.{sheet_checks, sheet_verdict, Validates}
use Rattle.validation.proofs.Following.{layout_e}
use Rattle.validation.proofs.Accepting.{list_refuses, sheet_decides, validates}
use Rattle.ranking.specs.declared.Ranking.{Ranking}
use Rattle.ranking.specs.Ranking.{Checked}

-- a check that passes found nothing
found_none : (fault : Fault) (found : Option ℕ) → passed ≡ or_else fault found passed → found ≡ None
unfolding or_else
found_none fault (Some p) e = let z : ◌≡◌ {A = ℕ} 0 1 = cc in absurd (omega arith)
found_none fault None e = refl

-- what `?` hands on is the refusal
handed_on : {list sheet : List ℕ} (v : Verdict) {e : Refusal} → IsErrAnd v (λ r. r ≡ e) → Err e ≡ sheet_verdict list sheet → Validates list sheet v
handed_on {list} {sheet} (Err r) h f = validates list sheet (Err r) (ap Err h ∙ f)
handed_on (Ok u) h f = absurd h

module _ (list sheet : List ℕ) where
  abbrev found_19 : Option ℕ
  found_19 = check19 (station_of list).parts (length (station_of list).cables) sheet

  -- checks 1 to 10
  module _ {r : Result Ranking Refusal} (checked : Checked list r) where
    pub list_refused : (v : Verdict) {e : Refusal} → r ≡ Err e → IsErrAnd v (λ x. x ≡ e) → Validates list sheet v
    list_refused v {e} h s = handed_on v s (sym (list_refuses list sheet e.fault e.place (rw h at checked)))

    pub list_clear : {ranking : Ranking} → r ≡ Ok ranking → Clear all_checks list
    list_clear h = (rw h at checked).0

  -- 19
  module _
      (pass : Clear all_checks list) {found : Option ℕ} {r : Verdict} (finds : found ≡ found_19) (is : r ≡ or_else faults.OutOfLayout found passed) where
    pub layout_refused : (v : Verdict) {e : Refusal} → r ≡ Err e → IsErrAnd v (λ x. x ≡ e) → Validates list sheet v
    unfolding sheet_verdict sheet_checks
    layout_refused v {e} h s =
        handed_on v s
        (refused_next all_checks
        (record { fault = faults.OutOfLayout; finds = λ l. check19 (station_of l).parts (length (station_of l).cables) sheet })
        pass finds is (record { fault = faults.BrokenRule; finds = λ l. check20 (station_of l) sheet } ∷ []) h)

    layout_clear : {u : ⊤} → r ≡ Ok u → found_19 ≡ None
    layout_clear h = sym finds ∙ found_none faults.OutOfLayout found (sym h ∙ is)

    pub laid_out : {u : ⊤} → r ≡ Ok u → Follows (station_of list).parts (length (station_of list).cables) sheet
    laid_out h = layout_e (station_of list).parts (length (station_of list).cables) sheet (layout_clear h)

    -- 20
    pub rules_decide :
        {u : ⊤} → r ≡ Ok u → {broken : Option ℕ} {v : Verdict} → broken ≡ check20 (station_of list) sheet
        → v ≡ or_else faults.BrokenRule broken passed → Validates list sheet v
    unfolding or_else
    rules_decide h {v = v} e f =
        let none = layout_clear h in
        validates list sheet v
        (f ∙ ap (λ (b : Option ℕ). or_else faults.BrokenRule b passed) e
        ∙ sym (sheet_decides list sheet pass ∙ ap (λ (b : Option ℕ). or_else faults.OutOfLayout b (or_else faults.BrokenRule (check20 (station_of list) sheet) passed)) none))
