-- `locating::hits::Screen::cables_at` meets its contract. The loop's invariant is `Naming`. Assumes nothing.
use native.Mathlib.Omega.{arith}
use mathlib.Core.Path.{◌∙◌}
use Prim.Native.Nat.{◌<◌}
use lib.ListN.{length}
use Rattle.station.specs.Station.{station_of}
use Rattle.order.proofs.Passed.{words_10, list_wired, lines_most}
use Rattle.locating.proofs.Reading.{list_passes}
use Rattle.locating.proofs.Naming.{naming_start, naming_inside, naming_corners, naming_has, naming_same, naming_end}
use Rattle.locating.proofs.hits.Screen.cables_at.Goals as goal
use Rattle.locating.proofs.hits.Screen.cables_at.Goals.{In-loop-i, then-passes, else-passes}

pub part_count-at-requires : goal.part_count-at-requires
part_count-at-requires c = words_10 _ (list_passes _ _ c.args.self.now.readable.passed)

pub overflow_add-at : goal.overflow_add-at
overflow_add-at c = omega (arith, c.part_count-at.ensures, (list_wired _ (list_passes _ _ c.args.self.now.readable.passed)).most)

pub cable_count-i-end-requires : goal.cable_count-i-end-requires
cable_count-i-end-requires c = words_10 _ (list_passes _ _ c.args.self.now.readable.passed)

pub loop-i-init : goal.loop-i-init
loop-i-init c = naming_start _ c.args.self.now.readable c.part_count-at.ensures

is_line : (c : In-loop-i) → c.loop-i.i < length (station_of c.args.self.now.list.now).cables
is_line c = omega (arith, c.cable_count-i-end.ensures, c.loop-i-test.true)

pub corners_at-corners-requires : goal.corners_at-corners-requires
corners_at-corners-requires c = naming_inside c.loop-i.invariant (is_line (goal.at.corners_at-corners-requires c).In-loop-i)

pub of-line-requires : goal.of-line-requires
of-line-requires c =
    naming_corners c.loop-i.invariant c.args.self.now.readable (is_line (goal.at.of-line-requires c).In-loop-i) c.corners_at-corners.ensures

pub overflow_cast-i : goal.overflow_cast-i
overflow_cast-i c =
    omega (arith, is_line (goal.at.overflow_cast-i c).In-loop-i, lines_most _ (list_passes _ _ c.args.self.now.readable.passed))

pub overflow_add-at-in-loop-i-2 : goal.overflow_add-at-in-loop-i-2
overflow_add-at-in-loop-i-2 c =
    omega (arith, naming_inside c.loop-i.invariant (is_line (goal.at.overflow_add-at-in-loop-i-2 c).In-loop-i))

pub loop-i-preserved : goal.loop-i-preserved
loop-i-preserved c =
    let l = is_line (goal.at.loop-i-preserved c).In-loop-i in
    elim c.if-passes.branch [
      | then-passes w ↦ naming_has c.loop-i.invariant c.args.self.now.readable l c.corners_at-corners.ensures c.of-line.ensures c.passes.ensures
          w.if-passes.true (w.hit-is ∙ w.with_cable-hit.ensures)
      | else-passes w ↦ naming_same c.loop-i.invariant c.args.self.now.readable l c.corners_at-corners.ensures c.of-line.ensures c.passes.ensures
          w.if-passes.false w.hit-is
    ]

pub returns : goal.returns
returns c = naming_end c.loop-i.invariant (omega (arith, c.cable_count-i-end.ensures, c.loop-i-test.false))
