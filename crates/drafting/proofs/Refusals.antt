-- A refusal that a stage hands on is the call's answer. Assumes nothing.
use Rattle.std.specs.Prelude.{Option, Some, None, Ok, Err}
use Prim.Native.Nat.{ℕ, ◌<◌}
use native.Mathlib.Omega.{arith}
use mathlib.Core.Path.{◌≡◌, refl, sym, ap, subst, ◌∙◌}
use mathlib.Core.Bool.{Bool, true, false}
use mathlib.Core.List.{List}
use lib.ListN.{length}
use Rattle.std.specs.Bool.{then_some}
use Rattle.std.specs.Result.{IsErrAnd}
use Rattle.prices.specs.Discounts.{check12}
use Rattle.checks.specs.declared.Fault.{Fault}
use Rattle.checks.specs.declared.Fault.TheVariants as faults
use Rattle.checks.specs.declared.Refusal.{Refusal}
use Rattle.checks.specs.Checks.{first_refusal, or_else, Clear, passed, refused}
use Rattle.checks.proofs.FirstRefusal.{same_fault, same_place}
use Rattle.station.specs.Station.{station_of}
use Rattle.order.specs.Checks.{all_checks}
use Rattle.drawing.specs.Spacing.{spaced, check13, check14}
use Rattle.hookup.specs.declared.Options.{Options}
use Rattle.hookup.specs.Answer.{Answer, Drew}
use Rattle.hookup.specs.Checks.{given_checks, call_checks}
use Rattle.hookup.specs.Drawing.{drawing}
use Rattle.hookup.proofs.Answers.{drew_sent_back, drew_too_large, drew_short}
use Rattle.hookup.proofs.CallChecks.{refused_12, refused_13, list_decides}
use Rattle.hookup.proofs.Demand3.{sheet_of}

-- what one check alone says: it found the refusal's place, or nothing
found_place :
    {fault : Fault} {refusal : Refusal} {check : Option ℕ} (found : Option ℕ) → found ≡ check → Err refusal ≡ or_else fault found passed
    → (check ≡ Some refusal.place) × (fault ≡ refusal.fault)
unfolding or_else
found_place (Some p) e f = (sym e ∙ ap Some (same_place (sym f)), same_fault (sym f))
found_place None e f = let z : ◌≡◌ {A = ℕ} 0 1 = cc in absurd (omega arith)

pub found_nothing : (fault : Fault) (found : Option ℕ) {check : Option ℕ} → found ≡ check → Ok tt ≡ or_else fault found passed → check ≡ None
unfolding or_else
found_nothing fault (Some p) e f = let z : ◌≡◌ {A = ℕ} 0 1 = cc in absurd (omega arith)
found_nothing fault None e f = sym e

-- a test alone, that finds a place where it holds
pub held : (b : Bool) (words : ℕ) {p : ℕ} → then_some b words ≡ Some p → (b ≡ true) × (words ≡ p)
held true words e = (refl, cc)
held false words e = let z : ◌≡◌ {A = ℕ} 0 1 = cc in absurd (omega arith)

pub failed : (b : Bool) (words : ℕ) → then_some b words ≡ None → b ≡ false
failed true words e = let z : ◌≡◌ {A = ℕ} 0 1 = cc in absurd (omega arith)
failed false words e = refl

module _ (options : Options) (list before : List ℕ) (answer : Answer) {refusal : Refusal} (same : IsErrAnd answer (λ e. e ≡ refusal)) where
  handed_on : {fault : Fault} → fault ≡ refusal.fault → Drew options list before before (refused fault refusal.place) → Drew options list before before answer
  handed_on {fault} f d = go answer same
    where
      go : (a : Answer) → IsErrAnd a (λ e. e ≡ refusal) → Drew options list before before a
      go (Ok s) h = absurd h
      go (Err e) h =
          subst (λ (r : Refusal). Drew options list before before (Err r)) (sym h)
          (subst (λ (k : Fault). Drew options list before before (refused k refusal.place)) f d)

  pub drew_12 : {found : Option ℕ} → found ≡ check12 options.discount → Err refusal ≡ or_else faults.DiscountTooHigh found passed
      → Drew options list before before answer
  drew_12 {found} e f = let g = found_place found e f in handed_on g.1 (drew_sent_back options list before _ _ (refused_12 options list refusal.place g.0))

  module _ (twelve : check12 options.discount ≡ None) where
    pub drew_13 : {found : Option ℕ} → found ≡ check13 options.spacing → Err refusal ≡ or_else faults.WrongSpacing found passed
        → Drew options list before before answer
    drew_13 {found} e f =
        let g = found_place found e f in handed_on g.1 (drew_sent_back options list before _ _ (refused_13 options list twelve refusal.place g.0))

    pub drew_list : check13 options.spacing ≡ None → first_refusal all_checks list ≡ Err refusal → Drew options list before before answer
    drew_list good e = handed_on refl (drew_sent_back options list before refusal.fault refusal.place (list_decides options list twelve good ∙ e))

  pub drew_14 : Clear (given_checks options) list → {found : Option ℕ} → found ≡ check14 (spaced options.spacing (drawing (station_of list)))
      → Err refusal ≡ or_else faults.NumberTooLarge found passed → Drew options list before before answer
  drew_14 pass {found} e f = let g = found_place found e f in handed_on g.1 (drew_too_large options list before refusal.place pass g.0)

  pub drew_11 :
      Clear (call_checks options) list → (b : Bool) (words : ℕ) → (b ≡ true → length before < words) → words ≡ length (sheet_of options list)
      → {found : Option ℕ} → found ≡ then_some b words → Err refusal ≡ or_else faults.OutputTooShort found passed
      → Drew options list before before answer
  drew_11 pass b words short e {found} q f =
      let g = found_place found q f in
      let h = held b words g.0 in
      handed_on g.1 (drew_short options list before refusal.place pass (omega (arith, short h.0, h.1)) (sym h.1 ∙ e))
