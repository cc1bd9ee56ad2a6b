-- `reachability::adjacency::Adjacency::neighbours` meets its contract. Assumes nothing.
use mathlib.Core.Path.{refl}
use Rattle.reachability.specs.Tables.{counted}
use Rattle.reachability.proofs.adjacency.Adjacency.neighbours.Goals as goal

pub returns : goal.returns
unfolding counted
returns c = refl
