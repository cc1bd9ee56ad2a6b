-- The words of the parts that are left go behind those that are written. Assumes nothing.
use Prim.Native.Nat.{◌≤◌}
use Rattle.lists.proofs.Storing.{Storing}
use Rattle.drawing.specs.Spacing.{spaced}
use Rattle.drawing.specs.Sheet.{parts_section}
use Rattle.writer.specs.Values.{numbered_in}
use Rattle.writer.proofs.Sections.{parts_from}
use Rattle.writer.proofs.sheet.put_parts.Given as goal

abbrev pub invariant-loop-p : goal.invariant-loop-p
invariant-loop-p l = (l.p ≤ l.layout.graph.parts) × Storing l.initial.sheet l.at (parts_section (spaced l.spacing (numbered_in l.ranking l.layout))) l.sheet l.next (parts_from (spaced l.spacing (numbered_in l.ranking l.layout)) l.p)
