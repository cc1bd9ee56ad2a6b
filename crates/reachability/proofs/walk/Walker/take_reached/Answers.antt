-- `reachability::walk::Walker::take_reached` meets its contract. The loop's invariant is `Walking`. Assumes nothing.
use borrow.Author.Rules.{rules}
use Rattle.reachability.proofs.Walking.{walking_start, walking_fits, walking_less, walking_next, walking_end}
use Rattle.reachability.proofs.walk.Walker.take_reached.Goals as goal

pub loop-height-init : goal.loop-height-init
loop-height-init c = search (walking_start, rules)

pub step-height-requires : goal.step-height-requires
step-height-requires c = search (walking_fits, rules)

pub loop-height-smaller : goal.loop-height-smaller
loop-height-smaller c = search (walking_less, rules)

pub loop-height-preserved : goal.loop-height-preserved
loop-height-preserved c = search (walking_next, rules)

pub returns : goal.returns
returns c = search (walking_end, rules)
