-- The words of the cables that are left go behind those that are written. Assumes nothing.
use Prim.Native.Nat.{◌≤◌}
use Rattle.lists.proofs.Storing.{Storing}
use Rattle.drawing.specs.Spacing.{spaced}
use Rattle.drawing.specs.Sheet.{cables_section}
use Rattle.placement.specs.Arrays.{layout_in}
use Rattle.writer.proofs.Sections.{cables_from}
use Rattle.writer.proofs.sheet.put_cables.Given as goal

abbrev pub invariant-loop-line : goal.invariant-loop-line
invariant-loop-line l = (l.line ≤ l.layout.graph.cables) × Storing l.initial.sheet l.at (cables_section (spaced l.spacing (layout_in l.layout))) l.sheet l.next (cables_from (spaced l.spacing (layout_in l.layout)) l.line)
