-- The lines below i have their courses. Assumes nothing.
use native.Mathlib.Omega.{arith}
use mathlib.Core.Path.{◌≡◌, sym, ap, ◌∙◌}
use lib.ListN.{length, length-set}
use Rattle.lists.proofs.Kept.{below_set}
use Rattle.ranking.specs.Arrays.{graph_in}
use Rattle.ranking.proofs.GraphArrays.{graph_fits, lines_count}
use Rattle.layout.specs.Points.{course_of}
use Rattle.layout.proofs.Step.{length_parts}
use Rattle.placement.specs.Laid.{course_in, no_course}
use Rattle.placement.proofs.Lanes.{cable_reaches, cable_course}
use Rattle.placement.proofs.courses.courses_of.Goals as goal

pub course_of-requires : goal.course_of-requires
course_of-requires c =
    let g = c.args.graph.now in
    cable_reaches (graph_fits g) c.requires.columns_of c.loop-i.i c.loop-i-test.true c.requires.connections_of _ (lines_count g)
    (sym (ap length c.requires.columns_of.parts ∙ length_parts (graph_in g) g.parts))

pub loop-i-preserved : goal.loop-i-preserved
loop-i-preserved c =
    let g = c.args.graph.now in
    let l = c.loop-i in (
      length-set l.courses l.i _ ∙ l.invariant.0,
      below_set (λ j x. course_in x ≡ course_of (graph_in g) j) l.courses l.i c.course_of.result no_course (omega (arith, g.is_ranked.few_cables)) l.invariant.1
          (cable_course (graph_fits g) c.requires.columns_of l.i c.loop-i-test.true c.requires.connections_of c.course_of.ensures),
    )
