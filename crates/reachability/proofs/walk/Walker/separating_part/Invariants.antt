-- `reachability::walk::Walker::separating_part` meets its contract. The invariant: no part before v separates another from both ends. Assumes
-- nothing.
use Rattle.lists.proofs.Seeking.{Seeking}
use Rattle.reachability.proofs.Connected.{separates}
use Rattle.reachability.proofs.walk.Walker.separating_part.Given as goal

abbrev pub invariant-loop-v : goal.invariant-loop-v
invariant-loop-v l = Seeking (separates l.self.list.now) l.v-end l.v
