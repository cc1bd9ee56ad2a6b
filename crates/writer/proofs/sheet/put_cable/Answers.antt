-- The head stands in front of the corners, and counts them. Assumes nothing.
use native.Mathlib.Omega.{arith}
use mathlib.Core.Path.{◌∙◌}
use Rattle.drawing.proofs.WordCounts.{route_length}
use Rattle.layout.specs.Points.{corners_of}
use Rattle.placement.specs.Laid.{course_in}
use Rattle.writer.proofs.CornerWords.{corners_next, corner_few, head_stored}
use Rattle.writer.proofs.sheet.put_cable.Goals as goal

pub put_corners-next-requires : goal.put_corners-next-requires
put_corners-next-requires c = record {
  course_fits = c.requires.course_fits;
  c_in_bounds = omega (arith, route_length c.args.line (corners_of (course_in c.args.c)), c.requires.c_in_bounds);
}

pub overflow_cast-next : goal.overflow_cast-next
overflow_cast-next c = omega (arith, corners_next (course_in c.args.c) c.put_corners-next.ensures, corner_few (course_in c.args.c) c.requires.course_fits.rises)

pub sheet_cable-requires : goal.sheet_cable-requires
sheet_cable-requires c = omega (arith, corners_next (course_in c.args.c) c.put_corners-next.ensures, corner_few (course_in c.args.c) c.requires.course_fits.rises)

pub put-requires : goal.put-requires
put-requires c = omega (arith, route_length c.args.line (corners_of (course_in c.args.c)), c.requires.c_in_bounds, c.put_corners-next.auto.sheet)

pub returns : goal.returns
returns c = head_stored c.args.line (corners_of (course_in c.args.c)) c.put_corners-next.ensures c.sheet_cable.ensures c.put.ensures
