-- `reachability::walk::Walker::push` meets its contract. The loop's invariant is `Pushing`. Assumes nothing.
use native.Mathlib.Omega.{arith}
use mathlib.Core.Path.{sym}
use Rattle.reachability.proofs.AdjacencyTable.{neighbours_few_in, numbers_length, numbers_at}
use Rattle.reachability.proofs.Walks.{pushing_start, pushing_next}
use Rattle.reachability.proofs.walk.Walker.push.Goals as goal

pub loop-j-init : goal.loop-j-init
loop-j-init c =
    pushing_start (neighbours_few_in c.args.self.now.adjacency.formed _ _ c.requires.part_inside c.neighbours-neighbours.ensures) c.requires.room (omega arith)
    (sym (numbers_length _))

pub loop-j-preserved : goal.loop-j-preserved
loop-j-preserved c = pushing_next _ c.loop-j.invariant (omega arith) (sym (numbers_at _ _))
