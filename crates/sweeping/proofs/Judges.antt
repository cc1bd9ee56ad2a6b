-- The two numbers that a sweep finds are what 20 finds. Assumes nothing.
use Prim.Native.Nat.{ℕ, ◌+◌}
use mathlib.Core.Path.{◌≡◌, refl}
use mathlib.Core.Bool.{Bool}
use mathlib.Core.List.{List}
use lib.ListN.{length, get_or}
use Rattle.checks.specs.Checks.{Clear}
use Rattle.station.specs.Station.{station_of}
use Rattle.order.specs.Checks.{all_checks}
use Rattle.validation.specs.Layout.{Follows}
use Rattle.validation.specs.Rules.{check20}
use Rattle.sweep.specs.Boards.{lowest_place}
use Rattle.sweep.specs.Sweep.{rows_alone, rows_pair, blank, alone_places, pair_places, lowest_alone, lowest_pair}
use Rattle.sweep.specs.Judged.{Faced, faced_drawing, judged}
use Rattle.sweep.proofs.FacedDrawing.{lines_counted}
use Rattle.sweep.proofs.SweptSheet.{swept_judged}

module _ (list sheet : List ℕ) (forward : List Bool) (lines : ℕ) (alone pairs : List ℕ)
    (pass : Clear all_checks list) (F : Follows (station_of list).parts (length (station_of list).cables) sheet)
    (Z : Faced (station_of list) sheet forward lines)
    (a : alone ≡ rows_alone (faced_drawing (station_of list) sheet forward lines) (blank alone_places lines) 0
    ((faced_drawing (station_of list) sheet forward lines).height + 1))
    (p : pairs ≡ rows_pair (faced_drawing (station_of list) sheet forward lines) (blank pair_places lines) 0
    ((faced_drawing (station_of list) sheet forward lines).height + 1))
  where
    alone_is : get_or alone lowest_place 0 ≡ lowest_alone (faced_drawing (station_of list) sheet forward lines)
    unfolding lowest_alone
    alone_is = rw (a, lines_counted (station_of list) sheet forward lines) refl

    pair_is : get_or pairs lowest_place 0 ≡ lowest_pair (faced_drawing (station_of list) sheet forward lines)
    unfolding lowest_pair
    pair_is = rw (p, lines_counted (station_of list) sheet forward lines) refl

    -- the numbers that the tables have at the end say what check 20 says
    pub swept_lines :
        judged (get_or alone lowest_place 0) (get_or pairs lowest_place 0) lines (length (station_of list).cables)
        ≡ check20 (station_of list) sheet
    swept_lines = rw (alone_is, pair_is) (swept_judged list sheet forward lines pass F Z)
