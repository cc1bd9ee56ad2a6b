-- Request 2026-12 beside document 01's check 7, which refused a list in which a cable is repeated: a list that 7 did not refuse has the
-- outcome that it had, and keeps the limit of two corners. Assumes nothing.
use Rattle.std.specs.Prelude.{Option, Some, None, Ok, Err}
use Prim.Native.Nat.{ℕ}
use native.Mathlib.Omega.{arith}
use mathlib.Core.Path.{◌≡◌, refl, sym, ap, ◌∙◌}
use mathlib.Core.Logic.{◌⊎◌, inl, inr, ⊎_elim}
use mathlib.Core.List.{List, ◌++◌}
use lib.ListN.{length}
use Rattle.lists.specs.Select.{filter}
use Rattle.checks.specs.Checks.{Check, first_refusal, Clear, Verdict, passed}
use Rattle.checks.proofs.FirstRefusal.{refused_before, rest_decides}
use Rattle.station.specs.Station.{station_of}
use Rattle.station.specs.Checks.{list_checks}
use Rattle.station.specs.Repeats.{first_repeat}
use Rattle.order.specs.Checks.{station_checks, all_checks}
use Rattle.order.proofs.Passed.{list_once}
use Rattle.drawing.specs.Sizes.{Bends}
use Rattle.hookup.specs.declared.Options.{Options}
use Rattle.hookup.specs.Checks.{option_checks, given_checks, call_checks}
use Rattle.hookup.specs.Drawing.{drawing}
use Rattle.hookup.specs.Outcome.{sheet_in, outcome}
use Rattle.hookup.specs.Repeats.{Then, refused_then, as_now, check7, before7, behind7, checks_with7, answered_then, outcome_with7, ClearWith7}
use Rattle.hookup.specs.Reading.{drawing_of}
use Rattle.hookup.proofs.CallChecks.{checked_given, list_clear}
use Rattle.hookup.proofs.Demand3.{sheet_of, demand3}

module _ (options : Options) where
  -- without 7 they are the checks of a call
  without_7 : before7 options ++ behind7 options ≡ call_checks options
  unfolding call_checks given_checks option_checks all_checks list_checks station_checks filter
  without_7 = refl

  module _ (list : List ℕ) where
    checks_decide : first_refusal (call_checks options) list ≡ first_refusal (before7 options ++ behind7 options) list
    checks_decide = ap (λ (cs : List Check). first_refusal cs list) (sym without_7)

    -- of every list: with 7 it was refused by 7, or the verdict is the same
    verdict_then :
        ((p : ℕ) × (checks_with7 options list ≡ refused_then 7 p)) ⊎ (as_now (first_refusal (call_checks options) list) ≡ checks_with7 options list)
    unfolding checks_with7
    verdict_then = go (first_refusal (before7 options) list) refl (first_repeat list)
      where
        go :
            (v : Verdict) → first_refusal (before7 options) list ≡ v → (f : Option ℕ)
            → let w = check7 v f (first_refusal (behind7 options) list) in
            ((p : ℕ) × (w ≡ refused_then 7 p)) ⊎ (as_now (first_refusal (call_checks options) list) ≡ w)
        go (Err r) e f = inr (ap as_now (checks_decide ∙ refused_before list (before7 options) (behind7 options) r.fault r.place e))
        go (Ok u) e (Some p) = inl (p, refl)
        go (Ok u) e None = inr (ap as_now (checks_decide ∙ rest_decides list (before7 options) (behind7 options) e))

    answered : (room : ℕ) → {v : Then Verdict} → checks_with7 options list ≡ v
        → outcome_with7 options list room ≡ answered_then v (sheet_in options (drawing (station_of list)) room)
    unfolding outcome_with7
    answered room e = ap (λ (v : Then Verdict). answered_then v (sheet_in options (drawing (station_of list)) room)) e

    -- of every list: with 7 it was refused by 7, or its outcome is the same
    pub seven_or_same :
        (room : ℕ) → ((p : ℕ) × (outcome_with7 options list room ≡ refused_then 7 p)) ⊎ (as_now (outcome options list room) ≡ outcome_with7 options list room)
    unfolding outcome
    seven_or_same room = ⊎_elim (λ r. inl (r.0, answered room r.1)) (λ e. inr (sym (answered room (sym e)))) verdict_then

    -- a list that passed with 7 has no repeated cable
    pub unrepeated : ClearWith7 options list → first_repeat list ≡ None
    unfolding checks_with7
    unrepeated pass = go (first_refusal (before7 options) list) (first_repeat list) refl pass
      where
        go :
            (v : Verdict) (f : Option ℕ) → first_repeat list ≡ f → check7 v f (first_refusal (behind7 options) list) ≡ as_now passed → first_repeat list ≡ None
        go (Err r) f e g = let z : ◌≡◌ {A = ℕ} 0 1 = cc in absurd (omega arith)
        go (Ok u) (Some p) e g = let z : ◌≡◌ {A = ℕ} 0 1 = cc in absurd (omega arith)
        go (Ok u) None e g = e

    module _ (none : first_repeat list ≡ None) where
      -- then 7 didn't refuse it
      not_seven : (p : ℕ) → checks_with7 options list ≡ refused_then 7 p → ⊥
      unfolding checks_with7
      not_seven p e = go (first_refusal (before7 options) list) (rw none at e)
        where
          go : (v : Verdict) → check7 v None (first_refusal (behind7 options) list) ≡ refused_then 7 p → ⊥
          go (Err r) g = let z : ◌≡◌ {A = ℕ} 0 1 = cc in absurd (omega arith)
          go (Ok u) g = let z : ◌≡◌ {A = ℕ} 0 1 = cc in absurd (omega arith)

      -- without one: with 7 or without, the outcome is the same, whatever the caller gives
      pub keeps_outcome : (room : ℕ) → as_now (outcome options list room) ≡ outcome_with7 options list room
      unfolding outcome
      keeps_outcome room = ⊎_elim (λ r. absurd (not_seven r.0 r.1)) (λ e. sym (answered room (sym e))) verdict_then

      -- and no cable on its sheet has more than two corners
      pub keeps_bends : Clear (call_checks options) list → Bends (length (station_of list).cables) (drawing_of list (sheet_of options list))
      keeps_bends pass = (demand3 options list pass).bends (list_once list (list_clear options list (checked_given options list pass)) none)

-- lists that were accepted keep their sheets: what passed with 7 under some options has the outcome that it had, under all
pub keeps_sheet :
    (options given : Options) (list : List ℕ) → ClearWith7 given list → (room : ℕ) → as_now (outcome options list room) ≡ outcome_with7 options list room
keeps_sheet options given list pass room = keeps_outcome options list (unrepeated given list pass) room
