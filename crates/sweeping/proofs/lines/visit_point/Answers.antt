-- `sweeping::lines::visit_point` meets its contract. Assumes nothing.
use Rattle.geometry.specs.Spots.{spot_in}
use Rattle.sweeping.proofs.LineSteps.{visited_as, visited_one, visited_none, point_here, point_away}
use Rattle.sweeping.proofs.lines.visit_point.Goals as goal

pub returns-then-spot-boards : goal.returns-then-spot-boards
returns-then-spot-boards c = let v = c.visit.ensures in
    visited_as (point_here _ (spot_in c.args.spot) c.args.corner c.if-spot-boards.true) (visited_one _ v.row_stays v.alone_after v.pairs_after)

pub returns-else-spot-boards : goal.returns-else-spot-boards
returns-else-spot-boards c = visited_as (point_away _ (spot_in c.args.spot) c.args.corner c.if-spot-boards.false) (visited_none _)
