-- Request 2026-14 beside document 01's check 10, which refused every list with a cut part: a list that passed it has the outcome that it
-- had. Assumes nothing.
use Rattle.std.specs.Prelude.{Option, Some, None, Ok, Err}
use Prim.Native.Nat.{ℕ}
use mathlib.Core.Path.{◌≡◌, refl, sym, ap, ◌∙◌}
use mathlib.Core.Logic.{◌⊎◌, inl, inr}
use mathlib.Core.List.Memᴰ
use mathlib.Core.List.{List, ◌∷◌, ◌++◌}
use Rattle.checks.specs.declared.Fault.TheVariants as faults
use Rattle.checks.specs.Checks.{Check, first_refusal, Clear, Verdict}
use Rattle.checks.specs.Outcome.{sent_back, if_passed}
use Rattle.checks.proofs.FirstRefusal.{first_found, refused_before, found_same, clear_each, clear_prefix, clear_rest}
use Rattle.station.specs.Station.{station_of}
use Rattle.station.specs.Checks.{list_checks}
use Rattle.station.proofs.Passed.{wired}
use Rattle.order.specs.Reach.{check10}
use Rattle.order.specs.CutParts.{cut_part}
use Rattle.order.specs.Checks.{station_checks, all_checks}
use Rattle.order.proofs.CutParts.{uncut_passes}
use Rattle.hookup.specs.declared.Options.{Options}
use Rattle.hookup.specs.Checks.{option_checks, given_checks, drawing_checks, call_checks}
use Rattle.hookup.specs.Drawing.{drawing}
use Rattle.hookup.specs.Outcome.{sheet_in, outcome}
use Rattle.hookup.specs.CutParts.{before10, cut_check, checks_with_cut, outcome_with_cut}

-- 10 of request 2026-14
abbrev ten : Check
ten = record { fault = faults.SeparatingPart; finds = λ list. check10 (station_of list) }

module _ (options : Options) where
  -- the checks of a call, around 10
  around_10 : call_checks options ≡ before10 options ++ ten ∷ drawing_checks options
  unfolding call_checks given_checks option_checks all_checks list_checks station_checks before10
  around_10 = refl

  module _ (list : List ℕ) where
    checks_decide : first_refusal (call_checks options) list ≡ first_refusal (before10 options ++ ten ∷ drawing_checks options) list
    checks_decide = ap (λ (cs : List Check). first_refusal cs list) around_10

    verdict_decides :
        (room : ℕ) → first_refusal (call_checks options) list ≡ first_refusal (checks_with_cut options) list
        → outcome options list room ≡ outcome_with_cut options list room
    unfolding outcome outcome_with_cut
    verdict_decides room e = ap (λ (v : Verdict). if_passed v (sheet_in options (drawing (station_of list)) room)) e

    -- checks 1 to 8 are among those before 10
    list_before : Clear (before10 options) list → Clear list_checks list
    unfolding before10
    list_before h = clear_rest list (option_checks options) list_checks (clear_prefix list (option_checks options ++ list_checks) _ h)

    -- a list that passed has no cut part
    pub passed_uncut : Clear (checks_with_cut options) list → Clear list_checks list × (cut_part (station_of list) ≡ None)
    unfolding checks_with_cut
    passed_uncut h = (
      list_before (clear_prefix list (before10 options) (cut_check ∷ drawing_checks options) h),
      clear_each list (cut_check ∷ drawing_checks options) {c = cut_check} (clear_rest list (before10 options) (cut_check ∷ drawing_checks options) h)
          (Memᴰ.head refl),
    )

    module _ (eight : Clear list_checks list) (none : cut_part (station_of list) ≡ None) where
      uncut_same : first_refusal (call_checks options) list ≡ first_refusal (checks_with_cut options) list
      unfolding checks_with_cut
      uncut_same =
          checks_decide
          ∙ found_same list ten cut_check refl (drawing_checks options) (uncut_passes (station_of list) (wired list eight) none ∙ sym none) (before10 options)

      -- without a cut part, the outcome is the same, whatever the caller gives
      pub keeps_outcome : (room : ℕ) → outcome options list room ≡ outcome_with_cut options list room
      keeps_outcome room = verdict_decides room uncut_same

    -- of every list: with document 01's check it was refused by 10, or its outcome is the same
    pub ten_or_same :
        (room : ℕ) → ((p : ℕ) × (outcome_with_cut options list room ≡ sent_back faults.SeparatingPart p)) ⊎ (outcome options list room ≡ outcome_with_cut options list room)
    unfolding checks_with_cut outcome_with_cut if_passed
    ten_or_same room = go (first_refusal (before10 options) list) refl (cut_part (station_of list)) refl
      where
        go : (v : Verdict) → first_refusal (before10 options) list ≡ v → (f : Option ℕ) → cut_part (station_of list) ≡ f
            → ((p : ℕ) × (outcome_with_cut options list room ≡ sent_back faults.SeparatingPart p)) ⊎ (outcome options list room ≡ outcome_with_cut options list room)
        go (Err r) h f e =
            inr
            (verdict_decides room
            (checks_decide
            ∙ refused_before list (before10 options) (ten ∷ drawing_checks options) r.fault r.place h
            ∙ sym (refused_before list (before10 options) (cut_check ∷ drawing_checks options) r.fault r.place h)))
        go (Ok u) h (Some p) e =
            inl (
              p,
              ap (λ (v : Verdict). if_passed v (sheet_in options (drawing (station_of list)) room))
                  (first_found list (before10 options) cut_check (drawing_checks options) p h e),
            )
        go (Ok u) h None e = inr (keeps_outcome (list_before h) e room)

-- 'earlier accepted lists keep their sheets': what passed with document 01's check under some options has the outcome that it had, under
-- all
pub keeps_sheet :
    (options given : Options) (list : List ℕ) → Clear (checks_with_cut given) list → (room : ℕ) → outcome options list room ≡ outcome_with_cut options list room
keeps_sheet options given list pass room =
    let h = passed_uncut given list pass in
    keeps_outcome options list h.0 h.1 room

-- and passes
pub keeps_pass : (options : Options) (list : List ℕ) → Clear (checks_with_cut options) list → Clear (call_checks options) list
keeps_pass options list pass =
    let h = passed_uncut options list pass in
    uncut_same options list h.0 h.1 ∙ pass
