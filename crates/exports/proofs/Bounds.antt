-- Bounds of an answer: a refusal's number is 1 to 14, but never 7; 12, 13 and 14 come where the check of the discount, of the spacing and
-- of the drawing as it is spaced applies, and 11 only where the output has fewer than `most_words_for` words, which no sheet exceeds. Assumes
-- nothing.
use Rattle.checks.specs.declared.Fault.{Fault}
use Rattle.std.specs.Prelude.{Option, Some, None, Ok, Err}
use Prim.Native.Nat.{ℕ, ◌<◌, ◌≤◌}
use mathlib.Core.Path.{◌≡◌, refl, sym, ap, ◌∙◌, subst}
use mathlib.Core.Bool.{Bool, true, false, cond}
use mathlib.Core.List.{List, ◌++◌, map, Memᴰ}
use native.Mathlib.Omega.{arith}
use lib.ListN.{length}
use lib.Dec.{ltb}
use borrow.Author.Tests.{ltb-true, ltb-false}
use Rattle.lists.specs.Select.{up_from}
use Rattle.prices.specs.Discounts.{check12}
use Rattle.station.specs.Station.{station_of}
use Rattle.station.proofs.Numbers.{Numbered, without_7}
use Rattle.checks.specs.declared.Fault.TheVariants as faults
use Rattle.checks.specs.Checks.{Check, first_refusal, Clear, Verdict, refused, number_of}
use Rattle.checks.proofs.FirstRefusal.{refused_number, same_fault, same_place}
use Rattle.order.specs.Checks.{all_checks}
use Rattle.order.proofs.Computing.{order_computing}
use Rattle.drawing.specs.Drawing.{Drawing, crossings}
use Rattle.drawing.specs.Spacing.{spaced, check13, check14}
use Rattle.hookup.specs.declared.Options.{Options}
use Rattle.hookup.specs.Checks.{given_checks, call_checks}
use Rattle.hookup.specs.Drawing.{drawing}
use Rattle.hookup.specs.Outcome.{Outcome, sheet_in, outcome}
use Rattle.checks.specs.Outcome.{fitted, if_passed, sent_back, written}
use Rattle.hookup.proofs.CallChecks.{refused_12, refused_13, list_decides, given_refused, refused_14, call_clear, list_clear}
use Rattle.hookup.proofs.Drawn.{most_words_for}
use Rattle.hookup.proofs.Demand3.{sheet_of, words_most}

-- Checks 1 to 10

numbered : map (λ (c : Check). number_of c.fault) all_checks ≡ up_from 1 6 ++ up_from 8 3
unfolding order_computing
numbered = refl

verdict_between : (list : List ℕ) {check : Fault} {place : ℕ} → first_refusal all_checks list ≡ refused check place → Numbered 10 (number_of check)
verdict_between list {check} e = without_7 3 (subst (Memᴰ (number_of check)) numbered (refused_number list all_checks e))

-- All checks

-- what a refusal's number tells
pub record Refusal (options : Options) (list : List ℕ) (room check place : ℕ) : Type 0 where
  pub least : 1 ≤ check
  pub most : check ≤ 14
  -- 2026-12: 'check 7 no longer occurs'
  pub not_7 : check ≡ 7 → ⊥
  pub eleven : check ≡ 11 → room < most_words_for options.discount
  pub twelve : check ≡ 12 → check12 options.discount ≡ Some place
  pub thirteen : check ≡ 13 → check13 options.spacing ≡ Some place
  pub fourteen : check ≡ 14 → Clear all_checks list × (check14 (spaced options.spacing (drawing (station_of list))) ≡ Some place)

-- a sheet fits the output, and `most_words_for`
abbrev Bounded : Options → List ℕ → ℕ → Outcome → Type 0
Bounded options list room (written words x) = (length words ≤ room) × (length words ≤ most_words_for options.discount)
Bounded options list room (sent_back check place) = Refusal options list room (number_of check) place

module _ (options : Options) (list : List ℕ) (room : ℕ) where
  -- by the first check that applies: 12, 13, one of 1 to 10, or 14
  refused_bounded : {check : Fault} {place : ℕ} → first_refusal (call_checks options) list ≡ refused check place → Refusal options list room (number_of check) place
  refused_bounded {check} {place} e = of_discount (check12 options.discount) refl
    where
      d : Drawing
      d = spaced options.spacing (drawing (station_of list))

      -- by what its number tells, where that is 12, 13 or 14
      beyond_11 :
          11 < number_of check → number_of check ≤ 14 → (number_of check ≡ 12 → check12 options.discount ≡ Some place) → (number_of check ≡ 13 → check13 options.spacing ≡ Some place)
          → (number_of check ≡ 14 → Clear all_checks list × (check14 d ≡ Some place)) → Refusal options list room (number_of check) place
      beyond_11 l m a b c =
          record {
            least = omega arith;
            most = m;
            not_7 = λ h. omega arith;
            eleven = λ h. absurd (omega arith);
            twelve = a;
            thirteen = b;
            fourteen = c;
          }

      of_drawing : Clear (given_checks options) list → (f : Option ℕ) → check14 d ≡ f → Refusal options list room (number_of check) place
      of_drawing pass (Some p) f =
          let g = sym (refused_14 options list pass p f) ∙ e in
          let c : 14 ≡ number_of check = ap number_of (same_fault g) in
          let q : p ≡ place = same_place g in
          beyond_11 (omega arith) (omega arith) (λ h. absurd (omega arith)) (λ h. absurd (omega arith)) (λ h. (list_clear options list pass, cc))
      of_drawing pass None f = let g = sym (call_clear options list pass f) ∙ e in let z : ◌≡◌ {A = ℕ} 0 1 = cc in absurd (omega arith)

      of_list : first_refusal (given_checks options) list ≡ first_refusal all_checks list → (v : Verdict) → first_refusal all_checks list ≡ v → Refusal options list room (number_of check) place
      of_list decided (Ok u) f = of_drawing (decided ∙ f) (check14 d) refl
      of_list decided (Err r) f =
          let g = sym (given_refused options list r.fault r.place (decided ∙ f)) ∙ e in
          let c : number_of r.fault ≡ number_of check = ap number_of (same_fault g) in
          let b = verdict_between list f in
          record {
            least = omega (arith, b.least);
            most = omega (arith, b.most);
            not_7 = λ h. b.not_7 (c ∙ h);
            eleven = λ h. absurd (omega (arith, b.most));
            twelve = λ h. absurd (omega (arith, b.most));
            thirteen = λ h. absurd (omega (arith, b.most));
            fourteen = λ h. absurd (omega (arith, b.most));
          }

      of_spacing : check12 options.discount ≡ None → (f : Option ℕ) → check13 options.spacing ≡ f → Refusal options list room (number_of check) place
      of_spacing none (Some p) f =
          let g = sym (given_refused options list faults.WrongSpacing p (refused_13 options list none p f)) ∙ e in
          let c : 13 ≡ number_of check = ap number_of (same_fault g) in
          let q : p ≡ place = same_place g in
          beyond_11 (omega arith) (omega arith) (λ h. absurd (omega arith)) (λ h. cc) (λ h. absurd (omega arith))
      of_spacing none None f = of_list (list_decides options list none f) (first_refusal all_checks list) refl

      of_discount : (f : Option ℕ) → check12 options.discount ≡ f → Refusal options list room (number_of check) place
      of_discount (Some p) f =
          let g = sym (given_refused options list faults.DiscountTooHigh p (refused_12 options list p f)) ∙ e in
          let c : 12 ≡ number_of check = ap number_of (same_fault g) in
          let q : p ≡ place = same_place g in
          beyond_11 (omega arith) (omega arith) (λ h. cc) (λ h. absurd (omega arith)) (λ h. absurd (omega arith))
      of_discount None f = of_spacing f (check13 options.spacing) refl

  -- the sheet of a list that passes them
  fitted_bounded : Clear (call_checks options) list → Bounded options list room (sheet_in options (drawing (station_of list)) room)
  unfolding sheet_in fitted
  fitted_bounded pass = go (ltb room (length words)) refl
    where
      words : List ℕ
      words = sheet_of options list

      most : length words ≤ most_words_for options.discount
      most = words_most options list pass

      go : (b : Bool) → ltb room (length words) ≡ b → Bounded options list room (cond b (sent_back faults.OutputTooShort (length words)) (written words (crossings (drawing (station_of list)))))
      go true t =
          record {
            least = omega arith;
            most = omega arith;
            not_7 = λ h. omega arith;
            eleven = λ h. omega (arith, ltb-true room (length words) t, most);
            twelve = λ h. absurd (omega arith);
            thirteen = λ h. absurd (omega arith);
            fourteen = λ h. absurd (omega arith);
          }
      go false t = (ltb-false room (length words) t, most)

  outcome_bounded : Bounded options list room (outcome options list room)
  unfolding outcome if_passed
  outcome_bounded = go (first_refusal (call_checks options) list) refl
    where
      go : (v : Verdict) → first_refusal (call_checks options) list ≡ v → Bounded options list room (if_passed v (sheet_in options (drawing (station_of list)) room))
      go (Ok u) e = fitted_bounded e
      go (Err r) e = refused_bounded e

  -- The laws

  pub refusal_bounded : {check : Fault} {place : ℕ} → outcome options list room ≡ sent_back check place → Refusal options list room (number_of check) place
  refusal_bounded e = subst (Bounded options list room) e outcome_bounded

  pub sheet_words_lem : {words : List ℕ} {x : ℕ} → outcome options list room ≡ written words x → (length words ≤ room) × (length words ≤ most_words_for options.discount)
  sheet_words_lem e = subst (Bounded options list room) e outcome_bounded
