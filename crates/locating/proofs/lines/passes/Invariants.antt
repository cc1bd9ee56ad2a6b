-- `locating::lines::passes` meets its contract. The loop's invariant is `Passing`. Assumes nothing.
use Rattle.geometry.specs.Spots.{spot_in}
use Rattle.locating.proofs.Passing.{Passing}
use Rattle.locating.proofs.lines.passes.Given as goal

abbrev pub invariant-loop-word : goal.invariant-loop-word
invariant-loop-word l =
    Passing (spot_in l.line.first) (spot_in l.line.last) l.line.corners.now (spot_in l.spot) (spot_in l.p) l.word-index
