-- `directions::facing::alternates` meets its contract. The loop's invariant is `Walking`. Assumes nothing.
use Rattle.geometry.specs.Spots.{spot_in}
use Rattle.directions.proofs.Alternating.{Walking}
use Rattle.directions.proofs.facing.alternates.Given as goal

abbrev pub invariant-loop-word : goal.invariant-loop-word
invariant-loop-word l = Walking (spot_in l.fn.first) (spot_in l.last) l.corners l.level (spot_in l.p) l.word-index
