-- `directions::facing::faces_forward` meets its contract. Assumes nothing.
use mathlib.Core.Path.{ap, ◌∙◌}
use mathlib.Core.Bool.{not}
use Rattle.geometry.specs.Spots.{spot_in}
use Rattle.directions.proofs.Looking.{few_corners, ends_meet, ends_apart}
use Rattle.directions.proofs.facing.faces_forward.Goals as goal

pub returns-in_default : goal.returns-in_default
returns-in_default c = let s = c.args in few_corners (spot_in s.first) s.corners.now (spot_in s.last) c.in_default.len_below

pub returns-then-not-runs_share : goal.returns-then-not-runs_share
returns-then-not-runs_share c = let s = c.args in
    ends_apart (spot_in s.first) s.corners.now (spot_in s.last) c.in-len2-up.len_at_least _ _ c.spot_in.ensures.spot c.spot_in-2.ensures.spot _
    c.runs_share.ensures c.if-not-runs_share.true _ c.alternates.ensures

pub returns-else-not-runs_share : goal.returns-else-not-runs_share
returns-else-not-runs_share c = let s = c.args in
    ap not c.if-not-runs_share.false
    ∙ ends_meet (spot_in s.first) s.corners.now (spot_in s.last) c.in-len2-up.len_at_least _ _ c.spot_in.ensures.spot c.spot_in-2.ensures.spot _
    c.runs_share.ensures c.if-not-runs_share.false
