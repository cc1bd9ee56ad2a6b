-- `ordering::order_parts` meets its contract. The loop's invariant is `Ordering`: the parts ranked so far, and the rest of the order from
-- the unranked parts. Assumes nothing.
use mathlib.Core.Path.{◌≡◌}
use Rattle.ordering.proofs.PartsByRank.{Ordering}
use Rattle.ordering.proofs.order_parts.Given as goal

abbrev pub invariant-loop-k : goal.invariant-loop-k
invariant-loop-k l = Ordering l.fn.walker.list.now l.part l.unranked.flags l.k × (l.unranked.walker.now ≡ l.fn.walker)
