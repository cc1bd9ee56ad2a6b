-- `ranking::check_and_rank` meets its contract: a refusal of checks 1 to 8, or what `rank_station` says. Assumes nothing.
use mathlib.Core.Path.{refl}
use Rattle.std.specs.Prelude.{Err}
use Rattle.ranking.proofs.CheckedRankings.{checked_8}
use Rattle.ranking.proofs.check_and_rank.Goals as goal

pub returns-in-Err : goal.returns-in-Err
returns-in-Err c = checked_8 c.args.list.now (Err c.in-Err.refusal) refl c.in-Err.ensures
