-- `ranking::rank_station` meets its contract: 9, 10, or the order of a list that passes both. Assumes nothing.
use mathlib.Core.Path.{◌≡◌}
use Rattle.std.specs.Prelude.{None}
use Rattle.station.specs.Station.{station_of}
use Rattle.checks.specs.Checks.{Clear}
use Rattle.order.specs.Checks.{all_checks}
use Rattle.order.specs.Reach.{check9}
use Rattle.order.proofs.AllChecks.{all_clear}
use Rattle.ranking.proofs.CheckedRankings.{found_none, checked_9, checked_10}
use Rattle.ranking.proofs.rank_station.Goals as goal
use Rattle.ranking.proofs.rank_station.Goals.{In_ok-refuse, In_ok-refuse-2}

reached : (c : In_ok-refuse) → check9 (station_of c.args.walker.now.list.now) ≡ None
reached c = found_none _ _ c.unreached_part.ensures c.in_ok-refuse.ensures

clear : (c : In_ok-refuse-2) → Clear all_checks c.args.walker.now.list.now
clear c = all_clear _ c.requires (found_none _ _ c.unreached_part.ensures c.in_ok-refuse.ensures) (found_none _ _ c.separating_part.ensures c.in_ok-refuse-2.ensures)

pub returns-in_err-refuse : goal.returns-in_err-refuse
returns-in_err-refuse c = checked_9 _ _ c.from_residual.ensures.1 c.requires c.unreached_part.ensures c.in_err-refuse.ensures

pub separating_part-requires : goal.separating_part-requires
separating_part-requires c = reached (goal.at.separating_part-requires c).In_ok-refuse

pub returns-in_err-refuse-2 : goal.returns-in_err-refuse-2
returns-in_err-refuse-2 c =
    checked_10 _ _ c.from_residual-in_err-refuse-2.ensures.1 c.requires (reached (goal.at.returns-in_err-refuse-2 c).In_ok-refuse) c.separating_part.ensures c.in_err-refuse-2.ensures

pub rank_parts-requires : goal.rank_parts-requires
rank_parts-requires c = clear (goal.at.rank_parts-requires c).In_ok-refuse-2

pub returns : goal.returns
returns c = (clear (goal.at.returns c).In_ok-refuse-2, c.rank_parts.ensures)
