-- Each number by its own map. Assumes nothing.
use native.Mathlib.Omega.{arith}
use Rattle.drawing.specs.Spacing.{spaced_spot}
use Rattle.layout.specs.Courses.{spaced_course}
use Rattle.measuring.proofs.spacing.space_course.Goals as goal

pub space_spot-requires : goal.space_spot-requires
unfolding spaced_course spaced_spot
space_spot-requires c = let F = c.requires.course_fits.from in
    record {
      spacing_value = c.requires.spacing_value;
      fits = (omega (arith, F.0), omega (arith, F.1));
    }

pub overflow_cast-result : goal.overflow_cast-result
unfolding spaced_course
overflow_cast-result c = omega (arith, c.row_at.ensures, c.requires.course_fits.low)

pub overflow_cast-result-2 : goal.overflow_cast-result-2
unfolding spaced_course
overflow_cast-result-2 c = omega (arith, c.column_at.ensures, c.requires.course_fits.column)

pub overflow_cast-result-3 : goal.overflow_cast-result-3
unfolding spaced_course
overflow_cast-result-3 c = omega (arith, c.row_at-2.ensures, c.requires.course_fits.high)

pub space_spot-requires-2 : goal.space_spot-requires-2
unfolding spaced_course spaced_spot
space_spot-requires-2 c = let F = c.requires.course_fits.to in
    record {
      spacing_value = c.requires.spacing_value;
      fits = (omega (arith, F.0), omega (arith, F.1));
    }

pub returns : goal.returns
unfolding spaced_course
returns c = λ i. record { from = c.space_spot.ensures i; low = c.row_at.ensures i; column = c.column_at.ensures i; high = c.row_at-2.ensures i; to = c.space_spot-2.ensures i }
