-- `ranking::rank_cables` meets its contract. Below line i, the arrays have the ranks of each cable's two parts. Assumes nothing.
use Prim.Native.Nat.{◌≤◌}
use Rattle.lists.proofs.Fill.{Filled}
use Rattle.station.specs.Station.{station_of}
use Rattle.order.specs.Graph.{lower, upper}
use Rattle.order.specs.Orientation.{graph_of}
use Rattle.ranking.specs.Spans.{lower_ranks, upper_ranks}
use Rattle.ranking.proofs.LineRanks.{blank}
use Rattle.ranking.proofs.rank_cables.Given as goal

abbrev pub invariant-loop-i : goal.invariant-loop-i
invariant-loop-i l = (l.i ≤ l.cables) × Filled (lower (graph_of (station_of l.list))) 0 l.i blank (lower_ranks l.spans) × Filled (upper (graph_of (station_of l.list))) 0 l.i blank (upper_ranks l.spans)
