-- `reachability::walk::Walker::take_reached` meets its contract. The loop's invariant is `Walking`: the walk still to go has the same end. Each
-- step takes one off what is left of it. Assumes nothing.
use Prim.Native.Nat.{◌+◌}
use Rattle.station.specs.Station.{station_of}
use Rattle.order.specs.Reach.{ends_at}
use Rattle.reachability.specs.Tables.{set_of, from_top}
use Rattle.reachability.proofs.Walking.{Walking}
use Rattle.reachability.proofs.walk.Walker.take_reached.Given as goal

abbrev pub invariant-loop-height : goal.invariant-loop-height
invariant-loop-height l = Walking l.self.list.now l.initial.left (from_top l.initial.stack l.top) l.left l.stack l.height

abbrev pub decreases-loop-height : goal.decreases-loop-height
decreases-loop-height l = ends_at (station_of l.self.list.now).cables (set_of l.self.list.now l.left) + l.height
