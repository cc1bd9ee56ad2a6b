-- All columns move, and then each cable that goes out gets its own. Assumes nothing.
use native.Mathlib.Omega.{arith}
use Prim.Native.Nat.{◌<◌}
use mathlib.Core.Path.{refl, ap}
use lib.ListN.{length, get_or, take}
use Rattle.lists.proofs.SetEach.{length_set_each}
use Rattle.incidence.specs.Incidents.{lines_in, keyed_by}
use Rattle.placement.specs.Placements.{port_columns}
use Rattle.placement.proofs.Opening.{opened_none, opened_more, line_below}
use Rattle.placement.proofs.placing.place_cables.Goals as goal
use Rattle.placement.proofs.placing.place_cables.Goals.{In-loop-i}

pub loop-i-init : goal.loop-i-init
loop-i-init c = opened_none (lines_in c.args.outs.now) (port_columns c.args.placement) _

below : (c : In-loop-i) → (get_or c.args.outs.now.places c.loop-i.i (keyed_by 0 0)).line < length c.loop-i.columns
below c =
    omega (
      arith,
      line_below c.requires.opens c.loop-i.i c.loop-i-test.true (keyed_by 0 0) refl,
      ap length c.loop-i.invariant,
      length_set_each (take c.loop-i.i (lines_in c.args.outs.now)) (take c.loop-i.i (port_columns c.args.placement)) c.move_columns.new.columns,
      c.move_columns.auto.columns,
    )

pub offset_bounds-columns-outs : goal.offset_bounds-columns-outs
offset_bounds-columns-outs c = omega (arith, below (goal.at.offset_bounds-columns-outs c).In-loop-i)

pub bounds-columns-outs : goal.bounds-columns-outs
bounds-columns-outs c = below (goal.at.bounds-columns-outs c).In-loop-i

pub loop-i-preserved : goal.loop-i-preserved
loop-i-preserved c = opened_more c.requires.opens c.loop-i.i c.loop-i-test.true _ _ _ refl c.port_column.ensures c.loop-i.invariant
