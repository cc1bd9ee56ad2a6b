-- The words of the cables that are left go behind those that are written. Assumes nothing.
use Prim.Native.Nat.{◌+◌}
use native.Mathlib.Omega.{arith}
use mathlib.Core.Path.{◌≡◌, sym, ap, subst, ◌∙◌}
use lib.ListN.{length, length-append}
use Rattle.lists.proofs.Stores.{stored_as}
use Rattle.lists.proofs.Storing.{storing_start, storing_next, storing_end, storing_kept, storing_room}
use Rattle.drawing.specs.Drawing.{route_at}
use Rattle.drawing.specs.Spacing.{spaced}
use Rattle.drawing.specs.Sheet.{route_words, cables_section}
use Rattle.drawing.proofs.Spaced.{routes_spaced}
use Rattle.layout.specs.Points.{Course, corners_of}
use Rattle.placement.specs.Laid.{course_in}
use Rattle.placement.specs.Arrays.{layout_in}
use Rattle.layout.specs.Courses.{CourseFits}
use Rattle.writer.proofs.Sections.{cables_from, cables_next, cables_end}
use Rattle.placement.proofs.Layouts.{route_count}
use Rattle.writer.proofs.Layouts.{course_small, route_is}
use Rattle.writer.proofs.sheet.put_cables.Goals as goal
use Rattle.writer.proofs.sheet.put_cables.Goals.{After-space_course-course, Start}

pub loop-line-init : goal.loop-line-init
unfolding cables_section
loop-line-init c = (omega arith, storing_start _ _ _)

-- the drawing as it is spaced has a route for each cable
routes_there : (s : Start) → length (spaced s.args.spacing (layout_in s.args.layout.now)).routes ≡ s.args.layout.now.graph.cables
routes_there s = routes_spaced s.args.spacing (layout_in s.args.layout.now) ∙ route_count s.args.layout.now

pub space_course-course-requires : goal.space_course-course-requires
space_course-course-requires c = record {
  spacing_value = c.requires.fits.spacing;
  course_fits = course_small c.args.layout.now c.args.spacing c.requires.fits c.loop-line.line c.loop-line-test.true;
}

-- the words of the cable that comes next
next_words : (c : After-space_course-course) → route_words c.loop-line.line (corners_of (course_in c.space_course-course.result))
    ≡ route_words c.loop-line.line (route_at (spaced c.args.spacing (layout_in c.args.layout.now)) c.loop-line.line).corners
next_words c = let line = c.loop-line.line in
    ap (λ (d : Course). route_words line (corners_of d)) c.space_course-course.ensures
    ∙ route_is c.args.layout.now c.args.spacing c.requires.fits line line c.loop-line-test.true

pub put_cable-next-requires : goal.put_cable-next-requires
put_cable-next-requires c = let l = c.loop-line in
    let d = spaced c.args.spacing (layout_in c.args.layout.now) in
    let h = c.loop-line-test.true in
    record {
      course_fits = subst CourseFits (sym c.space_course-course.ensures) (course_small c.args.layout.now c.args.spacing c.requires.fits l.line h);
      c_in_bounds = omega (
        arith,
        storing_room c.requires.layout_in_bounds l.invariant.1,
        ap length (cables_next d l.line (omega (arith, h, routes_there (goal.at.put_cable-next-requires c).Start))),
        length-append (route_words l.line (route_at d l.line).corners) (cables_from d (l.line + 1)),
        ap length (next_words (goal.at.put_cable-next-requires c).After-space_course-course),
      );
    }

pub loop-line-preserved : goal.loop-line-preserved
loop-line-preserved c = let l = c.loop-line in (
  omega arith,
  storing_next _ (cables_next (spaced c.args.spacing (layout_in c.args.layout.now)) l.line (omega (arith, c.loop-line-test.true, routes_there (goal.at.loop-line-preserved c).Start)))
      (stored_as (next_words (goal.at.loop-line-preserved c).After-space_course-course) c.put_cable-next.ensures) l.invariant.1,
)

pub returns : goal.returns
returns c = storing_end (cables_end (spaced c.args.spacing (layout_in c.args.layout.now)) c.loop-line.line (omega (arith, routes_there (goal.at.returns c).Start))) c.loop-line.invariant.1
