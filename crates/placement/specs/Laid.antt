-- What holds of the columns between two ranks and of each layout in code, by the values that it is made of. Assumes nothing.
use Rattle.std.specs.Prelude.{ℕ, ◌<◌, ◌≡◌, List, get_or, take}
use Rattle.ranking.specs.Arrays.{graph_in}
use Rattle.ranking.specs.declared.graph.Graph.{Graph}
use Rattle.geometry.specs.Spots.{spot_in}
use Rattle.placement.specs.declared.Columns as code-columns
use Rattle.placement.specs.declared.Course as code-course
use Rattle.layout.specs.Columns.{columns}
use Rattle.layout.specs.Points as drawn
use Rattle.layout.specs.Points.{Course, course_of}

-- c has the columns once the first k ranks of the graph stand
pub record ColumnsOf (g : Graph) (k : ℕ) (c : code-columns.Columns) : Type 0 where
  pub cables : take g.cables c.cables ≡ (columns (graph_in g) k).cables
  pub parts : take k c.parts ≡ (columns (graph_in g) k).parts
  pub count : c.count ≡ (columns (graph_in g) k).count

abbrev pub course_in : code-course.Course → Course
course_in c = record { from = spot_in c.from; low = c.low; column = c.column; high = c.high; to = spot_in c.to }

-- what stands beyond an array's end
abbrev pub no_course : code-course.Course
no_course = record { from = record { x = 0; y = 0 }; low = 0; column = 0; high = 0; to = record { x = 0; y = 0 } }

-- these are the columns, the rows more and the courses of the graph
pub record IsLaidOut (g : Graph) (c : code-columns.Columns) (bottom top : ℕ) (courses : List code-course.Course) : Type 0 where
  pub all_columns : ColumnsOf g g.parts c
  pub bottom_row : bottom ≡ drawn.bottom_rows (graph_in g)
  pub top_row : top ≡ drawn.top_rows (graph_in g)
  pub all_courses : (i : ℕ) → i < g.cables → course_in (get_or courses i no_course) ≡ course_of (graph_in g) i
