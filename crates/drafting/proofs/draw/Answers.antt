-- 12, 13 or the first of checks 1 to 10 that applies is the answer; a list that passes them is drawn. Assumes nothing.
use Rattle.std.specs.Prelude.{None}
use mathlib.Core.Path.{◌≡◌, ◌∙◌}
use Rattle.prices.specs.Discounts.{check12}
use Rattle.drawing.specs.Spacing.{check13}
use Rattle.hookup.proofs.CallChecks.{list_decides}
use Rattle.drafting.proofs.Refusals.{found_nothing, drew_12, drew_13, drew_list}
use Rattle.drafting.proofs.draw.Goals as goal
use Rattle.drafting.proofs.draw.Goals.{In_ok-refuse, In_ok-refuse-2}

none_12 : (c : In_ok-refuse) → check12 c.args.options.discount ≡ None
none_12 c = found_nothing _ _ c.check12.ensures c.in_ok-refuse.ensures

none_13 : (c : In_ok-refuse-2) → check13 c.args.options.spacing ≡ None
none_13 c = found_nothing _ _ c.check13.ensures c.in_ok-refuse-2.ensures

pub returns-in_err-refuse : goal.returns-in_err-refuse
returns-in_err-refuse c = drew_12 _ _ _ _ c.from_residual.ensures.1 c.check12.ensures c.in_err-refuse.ensures

pub returns-in_err-refuse-2 : goal.returns-in_err-refuse-2
returns-in_err-refuse-2 c =
    drew_13 _ _ _ _ c.from_residual-in_err-refuse-2.ensures.1 (none_12 (goal.at.returns-in_err-refuse-2 c).In_ok-refuse) c.check13.ensures c.in_err-refuse-2.ensures

pub returns-in_err-ranking : goal.returns-in_err-ranking
returns-in_err-ranking c =
    let j = goal.at.returns-in_err-ranking c in
    drew_list _ _ _ _ c.from_residual-in_err-ranking.ensures.1 (none_12 j.In_ok-refuse) (none_13 j.In_ok-refuse-2) c.in_err-ranking.ensures

pub draw_station-requires-clause-clear : goal.draw_station-requires-clause-clear
draw_station-requires-clause-clear c =
    let j = goal.at.draw_station-requires-clause-clear c in
    list_decides c.args.options _ (none_12 j.In_ok-refuse) (none_13 j.In_ok-refuse-2) ∙ c.in_ok-ranking.ensures.0
