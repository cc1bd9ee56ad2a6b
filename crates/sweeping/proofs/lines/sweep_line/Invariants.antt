-- `sweeping::lines::sweep_line` meets its contract. The loop's invariant is `Tracing`. Assumes nothing.
use Rattle.geometry.specs.Spots.{spot_in}
use Rattle.directions.specs.Code.{strand_in}
use Rattle.sweeping.proofs.LineSteps.{Tracing}
use Rattle.sweeping.proofs.lines.sweep_line.Given as goal

abbrev pub invariant-loop-word : goal.invariant-loop-word
invariant-loop-word l =
    Tracing (strand_in l.strand) (spot_in l.line.first) l.line.corners.now (spot_in l.line.last) l.fn.boards l.boards (spot_in l.p) l.word-index
