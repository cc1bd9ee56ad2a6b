-- `listing::check_list` meets its contract: each check behind those that find nothing. Assumes nothing.
use Rattle.std.proofs.Common.{rules, ◌≡◌, arith, Err, ◌∙◌}
use Rattle.checks.specs.Checks.{Clear}
use Rattle.checks.proofs.FirstRefusal.{refused_next, clear_next, no_check}
use Rattle.lists.specs.Select.{filter}
use Rattle.station.specs.Checks.{list_checks}
use Rattle.station.specs.Code.{up_to}
use Rattle.station.proofs.Each.{two_words}
use Rattle.listing.proofs.check_list.Goals.{In_ok-refuse, In_ok-refuse-2, In_ok-refuse-3, In_ok-refuse-4}
use Rattle.listing.proofs.check_list.Goals as goal

clear_1 : (c : In_ok-refuse) → Clear (up_to 1) c.args.list.now
unfolding list_checks filter
clear_1 c = clear_next (up_to 0) _ (no_check _) c.too_short.ensures c.refuse.ensures c.in_ok-refuse.was

clear_2 : (c : In_ok-refuse-2) → Clear (up_to 2) c.args.list.now
unfolding list_checks filter
clear_2 c = clear_next (up_to 1) _ (clear_1 (goal.at.wrong_length-requires c).In_ok-refuse) c.misplaced_word.ensures c.refuse-2.ensures c.in_ok-refuse-2.was

clear_3 : (c : In_ok-refuse-3) → Clear (up_to 3) c.args.list.now
unfolding list_checks filter
clear_3 c = clear_next (up_to 2) _ (clear_2 (goal.at.wrong_parts-requires c).In_ok-refuse-2) c.wrong_length.ensures c.refuse-3.ensures c.in_ok-refuse-3.was

pub returns-in_err-refuse : goal.returns-in_err-refuse
unfolding list_checks filter
returns-in_err-refuse c =
    let e : c.from_residual.result ≡ Err c.in_err-refuse.field-0.0 = search rules in
    e ∙ refused_next (up_to 0) _ (no_check _) c.too_short.ensures c.refuse.ensures _ c.in_err-refuse.was

pub returns-in_err-refuse-2 : goal.returns-in_err-refuse-2
unfolding list_checks filter
returns-in_err-refuse-2 c =
    let e : c.from_residual-in_err-refuse-2.result ≡ Err c.in_err-refuse-2.field-0.0 = search rules in
    e ∙ refused_next (up_to 1) _ (clear_1 (goal.at.returns-in_err-refuse-2 c).In_ok-refuse) c.misplaced_word.ensures c.refuse-2.ensures _ c.in_err-refuse-2.was

pub wrong_length-requires : goal.wrong_length-requires
wrong_length-requires c = omega (arith, two_words _ 1 (clear_1 (goal.at.wrong_length-requires c).In_ok-refuse) (omega arith))

pub returns-in_err-refuse-3 : goal.returns-in_err-refuse-3
unfolding list_checks filter
returns-in_err-refuse-3 c =
    let e : c.from_residual-in_err-refuse-3.result ≡ Err c.in_err-refuse-3.field-0.0 = search rules in
    e ∙ refused_next (up_to 2) _ (clear_2 (goal.at.returns-in_err-refuse-3 c).In_ok-refuse-2) c.wrong_length.ensures c.refuse-3.ensures _ c.in_err-refuse-3.was

pub wrong_parts-requires : goal.wrong_parts-requires
wrong_parts-requires c = omega (arith, two_words _ 1 (clear_1 (goal.at.wrong_parts-requires c).In_ok-refuse) (omega arith))

pub returns-in_err-refuse-4 : goal.returns-in_err-refuse-4
unfolding list_checks filter
returns-in_err-refuse-4 c =
    let e : c.from_residual-in_err-refuse-4.result ≡ Err c.in_err-refuse-4.field-0.0 = search rules in
    e ∙ refused_next (up_to 3) _ (clear_3 (goal.at.returns-in_err-refuse-4 c).In_ok-refuse-3) c.wrong_parts.ensures c.refuse-4.ensures _ c.in_err-refuse-4.was

pub check_parts-requires : goal.check_parts-requires
unfolding list_checks filter
check_parts-requires c = clear_next (up_to 3) _ (clear_3 (goal.at.check_parts-requires c).In_ok-refuse-3) c.wrong_parts.ensures c.refuse-4.ensures c.in_ok-refuse-4.was

pub returns : goal.returns
returns c = c.check_parts.ensures
