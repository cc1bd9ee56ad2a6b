-- The triangle of document 01 passes checks 1 to 10, so that the order theorem's hypotheses hold of a station. Assumes nothing.
use Prim.Native.Nat.{ℕ}
use mathlib.Core.Path.{refl}
use mathlib.Core.List.{List, [], ◌∷◌}
use Rattle.station.specs.Station.{station_of}
use Rattle.checks.specs.Checks.{Clear}
use Rattle.order.specs.Checks.{all_checks}
use Rattle.order.specs.Order.{order}
use Rattle.order.specs.StOrder.{Smallest}
use Rattle.order.proofs.Bipolar.{Orderable}
use Rattle.order.proofs.Passed.{list_orderable, list_smallest}
use Rattle.order.proofs.Computing.{order_computing}

abbrev pub triangle : List ℕ
triangle = 0x10030003 ∷ 0x20000002 ∷ 0x30000001 ∷ 0x30001002 ∷ 0x30000002 ∷ []

pub triangle_passes : Clear all_checks triangle
unfolding order_computing
triangle_passes = refl

pub triangle_orderable : Orderable (station_of triangle)
triangle_orderable = list_orderable triangle triangle_passes

pub triangle_smallest : Smallest (station_of triangle) (order (station_of triangle))
triangle_smallest = list_smallest triangle triangle_passes
