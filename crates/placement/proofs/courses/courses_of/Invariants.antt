-- The lines below i have their courses. Assumes nothing.
use Prim.Native.Nat.{ℕ, ◌<◌}
use mathlib.Core.Path.{◌≡◌}
use lib.ListN.{length, get_or}
use Rattle.words.specs.Limits.{most_cables}
use Rattle.ranking.specs.Arrays.{graph_in}
use Rattle.layout.specs.Points.{course_of}
use Rattle.placement.specs.Laid.{course_in, no_course}
use Rattle.placement.proofs.courses.courses_of.Given as goal

abbrev pub invariant-loop-i : goal.invariant-loop-i
invariant-loop-i l =
    (length l.courses ≡ most_cables) × ((j : ℕ) → j < l.i → course_in (get_or l.courses j no_course) ≡ course_of (graph_in l.graph) j)
