-- A course as it is spaced, and what its words ask of it. Assumes nothing.
use Rattle.std.specs.Prelude.{◌<◌, ◌≤◌}
use Rattle.words.specs.Limits.{most_field}
use Rattle.drawing.specs.declared.spacing.Spacing.{Spacing}
use Rattle.drawing.specs.Lengths.{line_length}
use Rattle.drawing.specs.Spacing.{column_at, row_at, spaced_spot}
use Rattle.layout.specs.Points.{Course, points_of}

-- 2026-06: the course on a spaced sheet
unfoldable pub spaced_course : Spacing → Course → Course
spaced_course s c = record {
  from = spaced_spot s c.from;
  low = row_at s c.low;
  column = column_at s c.column;
  high = row_at s c.high;
  to = spaced_spot s c.to;
}

-- a course goes up, and every number of it fits a 12-bit field
pub record CourseFits (c : Course) : Type 0 where
  pub rises : c.low < c.high
  pub from : (c.from.x ≤ most_field) × (c.from.y ≤ most_field)
  pub low : c.low ≤ most_field
  pub column : c.column ≤ most_field
  pub high : c.high ≤ most_field
  pub to : (c.to.x ≤ most_field) × (c.to.y ≤ most_field)

-- a course goes up, and its length fits a 12-bit field
pub record LengthFits (c : Course) : Type 0 where
  pub rises : c.low < c.high
  pub length : line_length (points_of c) ≤ most_field
