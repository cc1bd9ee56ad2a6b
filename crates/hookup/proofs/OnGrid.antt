-- 'With pitches 1 and margin 0 .. the sheet is the one known so far' (2026-06): on the grid 13 and 14 never apply, and the words are the
-- drawing's own, its lengths, and what its cables cost where a discount is given. Assumes nothing.
use Rattle.std.specs.Prelude.{Option, Some, None, Ok, Err}
use Prim.Native.Nat.{ℕ}
use mathlib.Core.Path.{◌≡◌, refl, sym, ap, ap₂, ◌∙◌}
use mathlib.Core.List.{List, [], ◌∷◌, ◌++◌}
use Rattle.prices.specs.Discounts.{check12}
use Rattle.prices.proofs.Discounts.{not_given}
use Rattle.station.specs.Station.{station_of}
use Rattle.checks.specs.declared.Fault.TheVariants as faults
use Rattle.checks.specs.Checks.{Check, first_refusal, Verdict}
use Rattle.checks.proofs.FirstRefusal.{rest_decides, first_found, clear_more, no_check}
use Rattle.order.specs.Checks.{all_checks}
use Rattle.order.proofs.Passed.{list_orderable}
use Rattle.drawing.specs.Drawing.{Drawing, crossings}
use Rattle.drawing.specs.Spacing.{on_grid}
use Rattle.drawing.specs.Sheet.{lengths_section, quote_section, drawing_words}
use Rattle.drawing.proofs.Spaced.{grid_passes}
use Rattle.drawing.proofs.Quoted.{grid_words}
use Rattle.hookup.specs.declared.Options.{Options}
use Rattle.hookup.specs.Options.{plain}
use Rattle.hookup.specs.Checks.{call_checks}
use Rattle.hookup.specs.Drawing.{drawing}
use Rattle.hookup.specs.Outcome.{Outcome, sheet_in, outcome}
use Rattle.checks.specs.Outcome.{fitted, if_passed}
use Rattle.hookup.proofs.CallChecks.{refused_12, list_decides, given_refused, call_clear}
use Rattle.hookup.proofs.Drawn.{grid_fits}

-- what is given where there is no spacing
abbrev unspaced_with : Option ℕ → Options
unspaced_with discount = record { discount = discount; spacing = on_grid }

-- 12, and then the list
abbrev known_checks : Option ℕ → List Check
known_checks discount = record { fault = faults.DiscountTooHigh; finds = λ list. check12 discount } ∷ all_checks

-- the drawing's words, its lengths, and the bill where there is one; 11 measures them
abbrev known_words : Option ℕ → Drawing → List ℕ
known_words discount d = (drawing_words d ++ lengths_section d) ++ quote_section discount d

abbrev known_sheet : Option ℕ → Drawing → ℕ → Outcome
known_sheet discount d room = fitted (known_words discount d) (crossings d) room

module _ (discount : Option ℕ) (list : List ℕ) where
  list_known : check12 discount ≡ None → first_refusal (call_checks (unspaced_with discount)) list ≡ first_refusal all_checks list
  list_known none = go (first_refusal all_checks list) refl
    where
      go : (v : Verdict) → first_refusal all_checks list ≡ v → first_refusal (call_checks (unspaced_with discount)) list ≡ first_refusal all_checks list
      go (Ok u) e =
          call_clear (unspaced_with discount) list (list_decides (unspaced_with discount) list none grid_passes ∙ e) (grid_fits (station_of list) (list_orderable list e))
          ∙ sym e
      go (Err r) e = given_refused (unspaced_with discount) list r.fault r.place (list_decides (unspaced_with discount) list none grid_passes ∙ e) ∙ sym e

  checks_known : first_refusal (call_checks (unspaced_with discount)) list ≡ first_refusal (known_checks discount) list
  checks_known = go (check12 discount) refl
    where
      c : Check
      c = record { fault = faults.DiscountTooHigh; finds = λ l. check12 discount }

      go : (f : Option ℕ) → check12 discount ≡ f → first_refusal (call_checks (unspaced_with discount)) list ≡ first_refusal (known_checks discount) list
      go (Some p) e =
          given_refused (unspaced_with discount) list faults.DiscountTooHigh p (refused_12 (unspaced_with discount) list p e)
          ∙ sym (first_found list [] c all_checks p (no_check list) e)
      go None e = list_known e ∙ sym (rest_decides list (c ∷ []) all_checks (clear_more list [] c (no_check list) e))

  -- every answer that is given without a spacing
  pub outcome_known : (room : ℕ) → outcome (unspaced_with discount) list room ≡ if_passed (first_refusal (known_checks discount) list) (known_sheet discount (drawing (station_of list)) room)
  unfolding outcome sheet_in
  outcome_known room =
      ap₂ if_passed checks_known
      (ap (λ (words : List ℕ). fitted words (crossings (drawing (station_of list))) room) (grid_words discount (drawing (station_of list))))

-- where nothing is given, the list alone decides
pub plain_decides : (list : List ℕ) → first_refusal (call_checks plain) list ≡ first_refusal all_checks list
plain_decides list = list_known _ list not_given
