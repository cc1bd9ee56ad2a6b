-- What makes an answer right: a refusal by a check, a sheet too long for the output, a sheet that is written. Assumes nothing.
use Rattle.checks.specs.declared.Fault.{Fault}
use Rattle.std.specs.Prelude.{Some, Ok}
use Prim.Native.Nat.{ℕ, ◌<◌, ◌≤◌}
use native.Mathlib.Omega.{arith}
use mathlib.Core.Path.{◌≡◌, sym, ap, ap₂, ◌∙◌, subst, subst₂}
use mathlib.Core.List.{List}
use lib.ListN.{length}
use Rattle.lists.specs.Stores.{Stored}
use Rattle.lists.proofs.Stores.{stored_as}
use Rattle.checks.specs.declared.Fault.TheVariants as faults
use Rattle.checks.proofs.Outcome.{verdict_refused, verdict_passed, fitted_short, fitted_whole, left_stored}
use Rattle.station.specs.Station.{station_of}
use Rattle.checks.specs.Checks.{first_refusal, Clear, refused}
use Rattle.drawing.specs.Drawing.{crossings}
use Rattle.drawing.specs.Spacing.{spaced, check14}
use Rattle.hookup.specs.declared.Options.{Options}
use Rattle.hookup.specs.Checks.{given_checks, call_checks}
use Rattle.hookup.specs.Drawing.{drawing}
use Rattle.hookup.specs.Outcome.{Outcome, sheet_in, outcome}
use Rattle.checks.specs.Outcome.{row_after, sent_back, written}
use Rattle.hookup.specs.Demand.{Demand3, Ordered, Crossed}
use Rattle.hookup.specs.Answer.{counts, reply, Drew}
use Rattle.hookup.proofs.CallChecks.{given_refused, refused_14}
use Rattle.hookup.proofs.Demand3.{sheet_of, demand3, ordered, crossed}

module _ (options : Options) (list : List ℕ) where
  -- Outcomes

  pub refused_outcome : (room : ℕ) (c : Fault) (p : ℕ) → first_refusal (call_checks options) list ≡ refused c p → outcome options list room ≡ sent_back c p
  unfolding outcome
  refused_outcome room c p e = verdict_refused (sheet_in options (drawing (station_of list)) room) e

  module _ (pass : Clear (call_checks options) list) (room : ℕ) where
    pub short_outcome : room < length (sheet_of options list) → outcome options list room ≡ sent_back faults.OutputTooShort (length (sheet_of options list))
    unfolding outcome sheet_in
    short_outcome h =
        verdict_passed (sheet_in options (drawing (station_of list)) room) pass ∙ fitted_short (sheet_of options list) (crossings (drawing (station_of list))) room h

    pub drawn_outcome : length (sheet_of options list) ≤ room → outcome options list room ≡ written (sheet_of options list) (crossings (drawing (station_of list)))
    unfolding outcome sheet_in
    drawn_outcome h =
        verdict_passed (sheet_in options (drawing (station_of list)) room) pass ∙ fitted_whole (sheet_of options list) (crossings (drawing (station_of list))) room h

  -- Answers

  drew_refused : (before : List ℕ) (c : Fault) (p : ℕ) → first_refusal (call_checks options) list ≡ refused c p → Drew options list before before (refused c p)
  drew_refused before c p e =
      let o = refused_outcome (length before) c p e in
      record { replies = sym (ap reply o); output = sym (ap (λ (z : Outcome). row_after z before) o); demands = tt }

  -- a refusal by what is tested before the drawing, and by 14
  pub drew_sent_back : (before : List ℕ) (c : Fault) (p : ℕ) → first_refusal (given_checks options) list ≡ refused c p → Drew options list before before (refused c p)
  drew_sent_back before c p e = drew_refused before c p (given_refused options list c p e)

  pub drew_too_large :
      (before : List ℕ) (p : ℕ) → Clear (given_checks options) list → check14 (spaced options.spacing (drawing (station_of list))) ≡ Some p
      → Drew options list before before (refused faults.NumberTooLarge p)
  drew_too_large before p pass e = drew_refused before faults.NumberTooLarge p (refused_14 options list pass p e)

  pub drew_short :
      (before : List ℕ) (p : ℕ) → Clear (call_checks options) list → length before < p → p ≡ length (sheet_of options list)
      → Drew options list before before (refused faults.OutputTooShort p)
  drew_short before p e h f =
      let o = short_outcome e (length before) (omega arith) in
      record { replies = sym (ap reply (o ∙ ap (sent_back faults.OutputTooShort) (sym f))); output = sym (ap (λ (z : Outcome). row_after z before) o); demands = tt }

  pub drew_sheet :
      (before after words : List ℕ) (n k : ℕ) → Clear (call_checks options) list → words ≡ sheet_of options list
      → length (sheet_of options list) ≤ length before → Stored before 0 words after n → k ≡ crossings (drawing (station_of list))
      → Drew options list before after (Ok (record { words = n; crossings = k }))
  drew_sheet before after words n k e f h S g =
      let o = drawn_outcome e (length before) h in
      let L = left_stored (crossings (drawing (station_of list))) h (stored_as f S) in
      record {
        replies = ap₂ counts L.count_is g ∙ sym (ap reply o);
        output = L.whole ∙ sym (ap (λ (z : Outcome). row_after z before) o);
        demands = (
          subst (λ (l : List ℕ). Demand3 options list l) (sym L.front) (demand3 options list e),
          subst (λ (l : List ℕ). Ordered options list l) (sym L.front) (ordered options list e),
          subst₂ (λ (l : List ℕ) (c : ℕ). Crossed list l c) (sym L.front) (sym g) (crossed options list e),
        );
      }
