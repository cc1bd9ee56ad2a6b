-- `levelling::find_levels` meets its contract. Assumes nothing.
use Rattle.std.proofs.Common.{rules, ◌≡◌, ℕ, ◌*◌, Err, sym, ap, ◌∙◌, arith}
use mathlib.Core.Path.{subst}
use lib.Seq.{length-take-le}
use Rattle.checks.specs.Checks.{Clear}
use Rattle.station.specs.Station.{station_of}
use Rattle.order.specs.Checks.{all_checks}
use Rattle.order.proofs.Passed.{words_10, list_wired}
use Rattle.ranking.specs.Ranking.{RankingOf, Checked}
use Rattle.levels.specs.Outcome.{level_checks}
use Rattle.levels.proofs.RowChecks.{levels_10, levels_rest, passed_fits}
use Rattle.levels.proofs.Answers.{levels_refused, levels_short, levels_written}
use Rattle.levelling.proofs.find_levels.Goals as goal
use Rattle.levelling.proofs.find_levels.Goals.{In_ok-ranking, In_ok-check_sorts}

-- checks 1 to 10 pass, and the order is that of the station
ranked : (c : In_ok-ranking) → Clear all_checks c.args.list.now × RankingOf (station_of c.args.list.now) c.in_ok-ranking.ranking
ranked c = subst (Checked c.args.list.now) c.in_ok-ranking.was c.check_and_rank.ensures

-- and so do 17 and 18
passes : (c : In_ok-check_sorts) → Clear (level_checks c.args.sorts.now) c.args.list.now
passes c = levels_rest _ _ (ranked (goal.at.part_count-floats-requires c).In_ok-ranking).0 ∙ sym c.check_sorts.ensures ∙ c.in_ok-check_sorts.was

pub returns-in_err-ranking : goal.returns-in_err-ranking
returns-in_err-ranking c =
    let e : c.from_residual.result ≡ Err c.in_err-ranking.field-0.0 = search rules in
    rw e (levels_refused _ _ _ _ _ (levels_10 _ _ _ _ (subst (Checked c.args.list.now) c.in_err-ranking.was c.check_and_rank.ensures)))

pub check_sorts-requires : goal.check_sorts-requires
check_sorts-requires c = words_10 _ (ranked (goal.at.check_sorts-requires c).In_ok-ranking).0

pub returns-in_err-check_sorts : goal.returns-in_err-check_sorts
returns-in_err-check_sorts c =
    let e : c.from_residual-in_err-check_sorts.result ≡ Err c.in_err-check_sorts.field-0.0 = search rules in
    rw e
    (levels_refused _ _ _ _ _
    (levels_rest _ _ (ranked (goal.at.returns-in_err-check_sorts c).In_ok-ranking).0 ∙ sym c.check_sorts.ensures ∙ c.in_err-check_sorts.was))

pub part_count-floats-requires : goal.part_count-floats-requires
part_count-floats-requires c = words_10 _ (ranked (goal.at.part_count-floats-requires c).In_ok-ranking).0

pub overflow_mul-floats : goal.overflow_mul-floats
overflow_mul-floats c = omega (arith, c.part_count-floats.ensures, (list_wired _ (ranked (goal.at.overflow_mul-floats c).In_ok-ranking).0).most)

pub returns-then-output-floats : goal.returns-then-output-floats
returns-then-output-floats c = rw c.part_count-floats.ensures (levels_short _ _ _ (passes (goal.at.returns-then-output-floats c).In_ok-check_sorts) (omega (arith, c.if-output-floats.true, c.part_count-floats.ensures)))

pub store-requires : goal.store-requires
store-requires c = record {
  clear = (ranked (goal.at.store-requires c).In_ok-ranking).0;
  ranking_of = (ranked (goal.at.store-requires c).In_ok-ranking).1;
  row_fits = passed_fits _ _ (passes (goal.at.store-requires c).In_ok-check_sorts);
  output_len = length-take-le _ _ c.if-output-floats.false ∙ ap (λ (n : ℕ). 2 * n) c.part_count-floats.ensures;
}

pub returns : goal.returns
returns c = rw c.part_count-floats.ensures
    (levels_written _ _ _ (passes (goal.at.returns c).In_ok-check_sorts) _ (omega (arith, c.if-output-floats.false, c.part_count-floats.ensures)) c.store.ensures)
