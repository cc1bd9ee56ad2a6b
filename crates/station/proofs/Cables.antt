-- A station's fields as words of its list, and its cables by line. Assumes nothing.
use Prim.Native.Nat.{ℕ, ◌+◌, ◌-◌, ◌<◌}
use mathlib.Core.Path.{◌≡◌, refl, ap, ◌∙◌}
use mathlib.Core.List.{List}
use native.Mathlib.Omega.{arith}
use lib.ListN.{length, get_or, drop, length-drop, length-map, get_or-map}
use lib.Seq.{get_or-drop}
use Rattle.words.specs.Words.{first_of, second_of, parts_of}
use Rattle.station.specs.Station.{Cable, no_cable, cable_of, station_of}

module _ (list : List ℕ) where
  pub parts_are : (station_of list).parts ≡ parts_of (get_or list 0 0)
  unfolding station_of
  parts_are = refl

  pub source_is : (station_of list).source ≡ first_of (get_or list 1 0)
  unfolding station_of
  source_is = refl

  pub analyser_is : (station_of list).analyser ≡ second_of (get_or list 1 0)
  unfolding station_of
  analyser_is = refl

  pub cables_count : length (station_of list).cables ≡ length list - 2
  unfolding station_of
  cables_count = length-map (drop 2 list) cable_of ∙ length-drop 2 list

  -- the word of a line
  pub line_word : (line : ℕ) → line < length (station_of list).cables → 2 + line < length list
  line_word line h = omega (arith, cables_count)

  -- 'Cable line 0 is the first kind 3 word.'
  pub cable_at_lem : (line : ℕ) → get_or (station_of list).cables line no_cable ≡ cable_of (get_or list (2 + line) 0)
  unfolding station_of cable_of
  cable_at_lem line = get_or-map cable_of (drop 2 list) line 0 ∙ ap cable_of (get_or-drop 2 list line 0)

  pub one_at : (line : ℕ) → (get_or (station_of list).cables line no_cable).one ≡ first_of (get_or list (2 + line) 0)
  unfolding cable_of
  one_at line = ap (λ (c : Cable). c.one) (cable_at_lem line)

  pub other_at : (line : ℕ) → (get_or (station_of list).cables line no_cable).other ≡ second_of (get_or list (2 + line) 0)
  unfolding cable_of
  other_at line = ap (λ (c : Cable). c.other) (cable_at_lem line)
