-- `editing::cable::crowded_end` meets its contract: the lower part first. Assumes nothing.
use Rattle.std.specs.Prelude.{Some}
use Prim.Native.Nat.{min, max}
use native.Mathlib.Omega.{arith}
use mathlib.Core.Path.{◌≡◌, sym, ap, ◌∙◌}
use lib.ListN.{get_or}
use Rattle.station.specs.Station.{station_of, degree}
use Rattle.station.proofs.UpTo.{clear_up_to}
use Rattle.editor.proofs.Longer.{lower_part_lem, higher_part, crowded_lower, crowded_higher, crowded_neither}
use Rattle.editing.proofs.cable.crowded_end.Goals as goal
use Rattle.editing.proofs.cable.crowded_end.Goals.{After-max-high, After-min-low}

-- the counts of the two parts are their degrees
lower_counted : (c : After-min-low)
    → get_or c.cables_per_part-counts.result c.min-low.result 0
    ≡ degree (station_of c.args.list.now).cables (min c.args.one c.args.other)
lower_counted c = rw c.min-low.ensures (c.cables_per_part-counts.ensures _ (lower_part_lem _ c.requires.clear _ _ c.requires.one_inside c.requires.other_inside))

higher_counted : (c : After-max-high)
    → get_or c.cables_per_part-counts.result c.max-high.result 0
    ≡ degree (station_of c.args.list.now).cables (max c.args.one c.args.other)
higher_counted c = rw c.max-high.ensures (c.cables_per_part-counts.ensures _ (higher_part _ c.requires.clear _ _ c.requires.one_inside c.requires.other_inside))

pub cables_per_part-counts-requires : goal.cables_per_part-counts-requires
cables_per_part-counts-requires c = clear_up_to _ 6 c.requires.clear

pub offset_bounds-counts-low : goal.offset_bounds-counts-low
offset_bounds-counts-low c = omega (arith, c.min-low.ensures, lower_part_lem _ c.requires.clear _ _ c.requires.one_inside c.requires.other_inside)

pub bounds-counts-low : goal.bounds-counts-low
bounds-counts-low c = omega (arith, c.min-low.ensures, lower_part_lem _ c.requires.clear _ _ c.requires.one_inside c.requires.other_inside)

pub returns-then-counts-low-ge-MOST_DEGREE : goal.returns-then-counts-low-ge-MOST_DEGREE
returns-then-counts-low-ge-MOST_DEGREE c = ap Some c.min-low.ensures ∙ sym (crowded_lower _ c.requires.clear _ _ c.requires.one_inside c.requires.other_inside (omega (arith, lower_counted (goal.at.returns-then-counts-low-ge-MOST_DEGREE c).After-min-low)))

pub offset_bounds-counts-high : goal.offset_bounds-counts-high
offset_bounds-counts-high c = omega (arith, c.max-high.ensures, higher_part _ c.requires.clear _ _ c.requires.one_inside c.requires.other_inside)

pub bounds-counts-high : goal.bounds-counts-high
bounds-counts-high c = omega (arith, c.max-high.ensures, higher_part _ c.requires.clear _ _ c.requires.one_inside c.requires.other_inside)

pub returns-then-counts-high-ge-MOST_DEGREE : goal.returns-then-counts-high-ge-MOST_DEGREE
returns-then-counts-high-ge-MOST_DEGREE c = ap Some c.max-high.ensures
    ∙ sym (crowded_higher _ c.requires.clear _ _ c.requires.one_inside c.requires.other_inside (omega (arith, lower_counted (goal.at.returns-then-counts-high-ge-MOST_DEGREE c).After-min-low)) (omega (arith, higher_counted (goal.at.returns-then-counts-high-ge-MOST_DEGREE c).After-max-high)))

pub returns : goal.returns
returns c = sym (crowded_neither _ c.requires.clear _ _ c.requires.one_inside c.requires.other_inside (omega (arith, lower_counted (goal.at.returns c).After-min-low)) (omega (arith, higher_counted (goal.at.returns c).After-max-high)))
