-- Checks 1 to 8 with any limit of parts: what check 4 finds with it, and that `list_checks` has the limit of today. Assumes nothing.
use Rattle.std.specs.Prelude.{Some}
use Prim.Native.Nat.{ℕ, ◌<◌, ◌≤◌}
use mathlib.Core.Path.{◌≡◌, refl, ap, sym, ◌∙◌}
use mathlib.Core.Bool.{Bool, ◌||◌, or-true}
use mathlib.Core.List.{List}
use lib.Dec.{ltb}
use borrow.Author.Tests.{lt-ltb, le-ltb}
use Rattle.words.specs.Limits.{least_parts, most_parts}
use Rattle.checks.specs.Checks.{Check, at_when}
use Rattle.station.specs.Station.{station_of}
use Rattle.station.specs.Checks.{check4, list_checks}
use Rattle.station.specs.PartLimit.{check4_within, list_checks_within}

pub limit_is : list_checks_within most_parts ≡ list_checks
unfolding list_checks_within list_checks check4 check4_within
limit_is = refl

module _ (list : List ℕ) where
  -- within two limits it finds the same
  pub found_within : (a b : ℕ) → (station_of list).parts ≤ a → (station_of list).parts ≤ b → check4_within a list ≡ check4_within b list
  unfolding station_of check4_within
  found_within a b h g =
      let n : ℕ = (station_of list).parts in
      ap (λ (t : Bool). at_when (ltb n least_parts || t) n) (le-ltb a n h ∙ sym (le-ltb b n g))

  -- above one it finds n
  pub found_above : (a : ℕ) → a < (station_of list).parts → check4_within a list ≡ Some (station_of list).parts
  unfolding station_of check4_within at_when
  found_above a h =
      let n : ℕ = (station_of list).parts in
      ap (λ (t : Bool). at_when t n) (ap (λ (t : Bool). ltb n least_parts || t) (lt-ltb a n h) ∙ or-true (ltb n least_parts))
