-- `validating::check_sheet` meets its contract. Assumes nothing.
use Rattle.checks.specs.Checks.{Clear}
use Rattle.order.specs.Checks.{all_checks}
use Rattle.validating.proofs.Deciding.{list_refused, list_clear, layout_refused, laid_out, rules_decide}
use Rattle.validating.proofs.check_sheet.Goals as goal
use Rattle.validating.proofs.check_sheet.Goals.{In_ok-check_and_rank}

passes : (c : In_ok-check_and_rank) → Clear all_checks c.args.list.now
passes c = list_clear _ c.args.sheet.now c.check_and_rank.ensures c.in_ok-check_and_rank.was

pub returns-in_err-check_and_rank : goal.returns-in_err-check_and_rank
returns-in_err-check_and_rank c = list_refused _ _ c.check_and_rank.ensures _ c.in_err-check_and_rank.was c.from_residual.ensures.1

pub returns-in_err-refuse : goal.returns-in_err-refuse
returns-in_err-refuse c = layout_refused _ _ (passes (goal.at.returns-in_err-refuse c).In_ok-check_and_rank) c.check_layout.ensures c.refuse.ensures _
    c.in_err-refuse.was c.from_residual-in_err-refuse.ensures.1

pub check_lines-requires-clause-follows : goal.check_lines-requires-clause-follows
check_lines-requires-clause-follows c = laid_out _ _ (passes (goal.at.check_lines-requires-clause-follows c).In_ok-check_and_rank)
    c.check_layout.ensures c.refuse.ensures c.in_ok-refuse.was

pub returns : goal.returns
returns c = rules_decide _ _ (passes (goal.at.returns c).In_ok-check_and_rank) c.check_layout.ensures c.refuse.ensures c.in_ok-refuse.was
    c.check_lines.ensures c.refuse-2.ensures
