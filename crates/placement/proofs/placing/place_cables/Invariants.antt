-- The cables at the places below i are opened. Assumes nothing.
use lib.ListN.{take}
use mathlib.Core.Path.{◌≡◌}
use Rattle.lists.specs.Stores.{set_each}
use Rattle.incidence.specs.Incidents.{lines_in}
use Rattle.placement.specs.Placements.{port_columns}
use Rattle.placement.proofs.placing.place_cables.Given as goal

abbrev pub invariant-loop-i : goal.invariant-loop-i
invariant-loop-i l = l.columns ≡ set_each (take l.i (lines_in l.outs)) (take l.i (port_columns l.placement)) l.initial.columns
