-- `reachability::walk::Walker::cut_off` meets its contract. Assumes nothing.
use borrow.Author.Rules.{rules}
use Rattle.reachability.proofs.Separation.{cut_without}
use Rattle.reachability.proofs.walk.Walker.cut_off.Goals as goal

pub returns : goal.returns
returns c = search (cut_without, rules)
