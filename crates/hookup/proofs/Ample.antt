-- An output of `most_words_for` words suffices for every sheet: more of it changes no answer, so that check 11 never refuses there. Assumes
-- nothing.
use Rattle.std.specs.Prelude.{Ok, Err}
use Prim.Native.Nat.{ℕ, ◌≤◌}
use native.Mathlib.Omega.{arith}
use mathlib.Core.Path.{◌≡◌, refl, sym, ◌∙◌}
use mathlib.Core.List.{List}
use lib.ListN.{length}
use Rattle.station.specs.Station.{station_of}
use Rattle.checks.specs.Checks.{first_refusal, Verdict}
use Rattle.drawing.specs.Drawing.{Drawing, crossings}
use Rattle.drawing.specs.Sheet.{quoted_words}
use Rattle.hookup.specs.declared.Options.{Options}
use Rattle.hookup.specs.Checks.{call_checks}
use Rattle.hookup.specs.Drawing.{drawing}
use Rattle.hookup.specs.Outcome.{sheet_in, outcome}
use Rattle.checks.proofs.Outcome.{fitted_whole}
use Rattle.checks.specs.Outcome.{if_passed, written}
use Rattle.hookup.proofs.Drawn.{most_words_for}
use Rattle.hookup.proofs.Demand3.{sheet_of, words_most}

module _ (options : Options) where
  pub fitted_ample :
      (d : Drawing) (room : ℕ) → length (quoted_words options.spacing options.discount d) ≤ room
      → sheet_in options d room ≡ written (quoted_words options.spacing options.discount d) (crossings d)
  unfolding sheet_in
  fitted_ample d room h = fitted_whole (quoted_words options.spacing options.discount d) (crossings d) room h

  pub room_ample : (list : List ℕ) (room more : ℕ) → most_words_for options.discount ≤ room → room ≤ more → outcome options list more ≡ outcome options list room
  unfolding outcome if_passed
  room_ample list room more h g = go (first_refusal (call_checks options) list) refl
    where
      go :
          (v : Verdict) → first_refusal (call_checks options) list ≡ v
          → if_passed v (sheet_in options (drawing (station_of list)) more) ≡ if_passed v (sheet_in options (drawing (station_of list)) room)
      go (Ok u) e =
          let s : length (sheet_of options list) ≤ most_words_for options.discount = words_most options list e in
          fitted_ample (drawing (station_of list)) more (omega arith) ∙ sym (fitted_ample (drawing (station_of list)) room (omega arith))
      go (Err r) e = refl
