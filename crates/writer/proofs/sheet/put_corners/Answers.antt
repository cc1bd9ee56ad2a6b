-- Four corners at most, each by its own test. Assumes nothing.
use native.Mathlib.Omega.{arith}
use mathlib.Core.Path.{◌≡◌, refl, ap, ◌∙◌}
use mathlib.Core.Bool.{◌&&◌, ◌||◌}
use borrow.Author.Tests.{eq-eqb, ne_eqb}
use Rattle.lists.specs.Select.{one_if}
use Rattle.placement.specs.Laid.{course_in}
use Rattle.writer.proofs.CornerWords.{dips, shifts, corner_count_lem, first_left, second_left, third_left, corners_stored}
use Rattle.writer.proofs.sheet.put_corners.Goals as goal
use Rattle.writer.proofs.sheet.put_corners.Goals.{Joined-dips, Joined-dips-2, then-dips, else-dips, then-dips-2, else-dips-2}

first : (k : Joined-dips) → k.if-dips.put_corner ≡ (dips (course_in k.args.c) && shifts (course_in k.args.c))
first k = elim k.if-dips.branch [ then-dips w ↦ rw (ne_eqb _ _ w.if-dips.true) w.put_corner-is | else-dips w ↦ w.put_corner-is ∙ rw (eq-eqb _ _ w.if-dips.false) refl ]

second : (k : Joined-dips-2) → k.if-dips-2.put_corner ≡ (dips (course_in k.args.c) || shifts (course_in k.args.c))
second k = elim k.if-dips-2.branch [ then-dips-2 w ↦ w.put_corner-is ∙ rw (ne_eqb _ _ w.if-dips-2.true) refl | else-dips-2 w ↦ rw (eq-eqb _ _ w.if-dips-2.false) w.put_corner-is ]

pub put_corner-second-requires : goal.put_corner-second-requires
put_corner-second-requires c =
    omega (
      arith,
      corner_count_lem (course_in c.args.c) c.requires.course_fits.rises,
      ap one_if (first (goal.at.put_corner-second-requires c).Joined-dips),
      c.requires.course_fits,
      c.requires.c_in_bounds,
    )

pub put_corner-third-requires-clause-turns_in_bounds : goal.put_corner-third-requires-clause-turns_in_bounds
put_corner-third-requires-clause-turns_in_bounds c =
    let j = goal.at.put_corner-third-requires-clause-turns_in_bounds c in
    omega (
      arith,
      first_left (course_in c.args.c) c.requires.course_fits.rises (first j.Joined-dips) c.put_corner-second.ensures c.requires.c_in_bounds,
      ap one_if (second j.Joined-dips-2),
    )

pub put_corner-fourth-requires-clause-turns_in_bounds : goal.put_corner-fourth-requires-clause-turns_in_bounds
put_corner-fourth-requires-clause-turns_in_bounds c =
    let j = goal.at.put_corner-fourth-requires-clause-turns_in_bounds c in
    let a = first_left (course_in c.args.c) c.requires.course_fits.rises (first j.Joined-dips) c.put_corner-second.ensures c.requires.c_in_bounds in
    omega (arith, second_left (course_in c.args.c) (second j.Joined-dips-2) c.put_corner-third.ensures a)

pub put_corner-requires-clause-turns_in_bounds : goal.put_corner-requires-clause-turns_in_bounds
put_corner-requires-clause-turns_in_bounds c =
    let j = goal.at.put_corner-requires-clause-turns_in_bounds c in
    let a = first_left (course_in c.args.c) c.requires.course_fits.rises (first j.Joined-dips) c.put_corner-second.ensures c.requires.c_in_bounds in
    third_left (course_in c.args.c) c.put_corner-fourth.ensures (second_left (course_in c.args.c) (second j.Joined-dips-2) c.put_corner-third.ensures a)

pub returns : goal.returns
returns c =
    let j = goal.at.returns c in
    corners_stored (course_in c.args.c) _ _ c.requires.course_fits.rises (first j.Joined-dips) (second j.Joined-dips-2) c.put_corner-second.ensures
    c.put_corner-third.ensures c.put_corner-fourth.ensures c.put_corner.ensures
