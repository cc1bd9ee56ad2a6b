-- The checks of a call: 12 and 13 first, then checks 1 to 8 with what they find, then 9, 10 and 14. Assumes nothing.
use Rattle.checks.specs.declared.Fault.{Fault}
use Rattle.std.specs.Prelude.{Some, None}
use Prim.Native.Nat.{ℕ}
use mathlib.Core.Path.{◌≡◌, refl}
use mathlib.Core.List.{List, [], ◌∷◌, Memᴰ}
use Rattle.prices.specs.Discounts.{check12}
use Rattle.station.specs.Station.{station_of}
use Rattle.checks.specs.declared.Fault.TheVariants as faults
use Rattle.checks.specs.Checks.{Check, first_refusal, Clear, refused}
use Rattle.checks.proofs.FirstRefusal.{no_check, rest_decides, first_found, refused_before, clear_each, clear_prefix, clear_rest, clear_more}
use Rattle.order.specs.Checks.{all_checks}
use Rattle.drawing.specs.Spacing.{spaced, check13, check14}
use Rattle.hookup.specs.declared.Options.{Options}
use Rattle.hookup.specs.Drawing.{drawing}
use Rattle.hookup.specs.Checks.{option_checks, given_checks, drawing_checks, call_checks}

-- Checks 12 and 13, 'tested before the list'

module _ (options : Options) (list : List ℕ) where
  abbrev check_12 : Check
  check_12 = record { fault = faults.DiscountTooHigh; finds = λ l. check12 options.discount }

  abbrev check_13 : Check
  check_13 = record { fault = faults.WrongSpacing; finds = λ l. check13 options.spacing }

  abbrev check_14 : Check
  check_14 = record { fault = faults.NumberTooLarge; finds = λ l. check14 (spaced options.spacing (drawing (station_of l))) }

  pub refused_12 : (p : ℕ) → check12 options.discount ≡ Some p → first_refusal (given_checks options) list ≡ refused faults.DiscountTooHigh p
  unfolding given_checks option_checks
  refused_12 p e = first_found list [] check_12 (check_13 ∷ all_checks) p (no_check list) e

  module _ (none : check12 options.discount ≡ None) where
    twelve : Clear (check_12 ∷ []) list
    twelve = clear_more list [] check_12 (no_check list) none

    pub refused_13 : (p : ℕ) → check13 options.spacing ≡ Some p → first_refusal (given_checks options) list ≡ refused faults.WrongSpacing p
    unfolding given_checks option_checks
    refused_13 p e = first_found list (check_12 ∷ []) check_13 all_checks p twelve e

    module _ (good : check13 options.spacing ≡ None) where
      options_clear : Clear (option_checks options) list
      unfolding option_checks
      options_clear = clear_more list (check_12 ∷ []) check_13 twelve good

      -- then the list decides
      pub list_decides : first_refusal (given_checks options) list ≡ first_refusal all_checks list
      unfolding given_checks
      list_decides = rest_decides list (option_checks options) all_checks options_clear

  -- Check 14, 'tested after 10'

  pub given_refused : (c : Fault) (p : ℕ) → first_refusal (given_checks options) list ≡ refused c p → first_refusal (call_checks options) list ≡ refused c p
  unfolding call_checks
  given_refused c p e = refused_before list (given_checks options) (drawing_checks options) c p e

  module _ (pass : Clear (given_checks options) list) where
    pub refused_14 :
        (p : ℕ) → check14 (spaced options.spacing (drawing (station_of list))) ≡ Some p → first_refusal (call_checks options) list ≡ refused faults.NumberTooLarge p
    unfolding call_checks drawing_checks
    refused_14 p e = first_found list (given_checks options) check_14 [] p pass e

    pub call_clear : check14 (spaced options.spacing (drawing (station_of list))) ≡ None → Clear (call_checks options) list
    unfolding call_checks drawing_checks
    call_clear e = clear_more list (given_checks options) check_14 pass e

    -- what was given passes, and so does the list
    pub list_clear : Clear all_checks list
    unfolding given_checks
    list_clear = clear_rest list (option_checks options) all_checks pass

    given_clear : {c : Check} → Memᴰ c (option_checks options) → c.finds list ≡ None
    unfolding given_checks
    given_clear {c} m = clear_each list (option_checks options) {c = c} (clear_prefix list (option_checks options) all_checks pass) m

    pub discount_clear : check12 options.discount ≡ None
    unfolding option_checks
    discount_clear = given_clear {c = check_12} (Memᴰ.head refl)

    pub spacing_clear : check13 options.spacing ≡ None
    unfolding option_checks
    spacing_clear = given_clear {c = check_13} (Memᴰ.tail (Memᴰ.head refl))

  module _ (pass : Clear (call_checks options) list) where
    pub checked_given : Clear (given_checks options) list
    unfolding call_checks
    checked_given = clear_prefix list (given_checks options) (drawing_checks options) pass

    pub drawing_clear : check14 (spaced options.spacing (drawing (station_of list))) ≡ None
    unfolding call_checks drawing_checks
    drawing_clear = clear_each list (check_14 ∷ []) {c = check_14} (clear_rest list (given_checks options) (drawing_checks options) pass) (Memᴰ.head refl)
