-- `ordering::ranks_of` meets its contract. The loop's invariant is `Filling`. Assumes nothing.
use Prim.Native.Nat.{◌-◌}
use native.Mathlib.Omega.{arith}
use mathlib.Core.Path.{◌∙◌}
use Rattle.ordering.proofs.Numbers.{numbers_length, part_number, number_below}
use Rattle.ordering.proofs.Filling.{filling_next}
use Rattle.ordering.proofs.ranks_of.Goals as goal

pub bounds-rank-part : goal.bounds-rank-part
bounds-rank-part c = number_below _ c.requires.inside (c.loop-k.k - 1)

pub loop-k-preserved : goal.loop-k-preserved
loop-k-preserved c = let l = c.loop-k in
    filling_next _ _ c.requires.count (numbers_length _ ∙ omega arith) c.requires.inside l.invariant (omega arith) c.of.ensures (part_number _ (l.k - 1))
