-- The course is read off its cable, the columns of the parts and the ends. Assumes nothing.
use mathlib.Core.Path.{refl}
use borrow.Author.Tests.{eq-eqb, ne_eqb}
use Rattle.placement.proofs.Lanes.{course_made}
use Rattle.placement.proofs.courses.course_of.Goals as goal
use Rattle.placement.proofs.courses.course_of.Goals.{then-cable-connections, else-cable-connections, then-cable-connections-2, else-cable-connections-2}

pub returns : goal.returns
returns c =
    course_made c.args.connections c.args.cable c.args.parts.now c.part_spot.ensures
    (elim c.if-cable-connections.branch [
      | then-cable-connections w ↦ rw (eq-eqb _ _ w.if-cable-connections.true) w.result-is
      | else-cable-connections w ↦ rw (ne_eqb _ _ w.if-cable-connections.false) w.result-is
    ])
    refl
    (elim c.if-cable-connections-2.branch [
      | then-cable-connections-2 w ↦ rw (eq-eqb _ _ w.if-cable-connections-2.true) w.result-is
      | else-cable-connections-2 w ↦ rw (ne_eqb _ _ w.if-cable-connections-2.false) w.result-is
    ])
    c.part_spot-2.ensures
