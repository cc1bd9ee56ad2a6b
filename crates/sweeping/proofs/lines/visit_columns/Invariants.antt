-- `sweeping::lines::visit_columns` meets its contract. The loop's invariant is `Left`. Assumes nothing.
use Prim.Native.Nat.{◌-◌}
use Rattle.sweep.specs.Visits.{level_visits}
use Rattle.directions.specs.Code.{strand_in}
use Rattle.sweeping.proofs.LineSteps.{Left}
use Rattle.sweeping.proofs.lines.visit_columns.Given as goal

abbrev pub invariant-loop-column : goal.invariant-loop-column
invariant-loop-column l =
    Left (strand_in l.strand) l.initial.boards (level_visits l.from (l.to - l.from)) l.boards (level_visits l.column (l.to - l.column))
