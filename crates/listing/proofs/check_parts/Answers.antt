use Rattle.std.proofs.Common.{rules, ◌≡◌, arith, Err, ◌∙◌}
use Rattle.checks.specs.Checks.{Clear}
use Rattle.checks.proofs.FirstRefusal.{refused_next, clear_next, decided_next}
use Rattle.lists.specs.Select.{filter}
use Rattle.station.specs.Checks.{list_checks}
use Rattle.station.specs.Code.{up_to}
use Rattle.station.proofs.Each.{two_words}
use Rattle.listing.proofs.check_parts.Goals.{In_ok-refuse}
use Rattle.listing.proofs.check_parts.Goals as goal

pub outside_word-requires : goal.outside_word-requires
outside_word-requires c = omega (arith, two_words _ 4 c.requires (omega arith))

pub returns-in_err-refuse : goal.returns-in_err-refuse
unfolding list_checks filter
returns-in_err-refuse c = let e : c.from_residual.result ≡ Err c.in_err-refuse.field-0.0 = search rules in e ∙ refused_next (up_to 4) _ c.requires c.outside_word.ensures c.refuse.ensures _ c.in_err-refuse.was

pub loop_word-requires : goal.loop_word-requires
loop_word-requires c = omega (arith, two_words _ 4 c.requires (omega arith))

clear_5 : (c : In_ok-refuse) → Clear (up_to 5) c.args.list.now
unfolding list_checks filter
clear_5 c = clear_next (up_to 4) _ c.requires c.outside_word.ensures c.refuse.ensures c.in_ok-refuse.was

pub returns-in_err-refuse-2 : goal.returns-in_err-refuse-2
unfolding list_checks filter
returns-in_err-refuse-2 c =
    let e : c.from_residual-in_err-refuse-2.result ≡ Err c.in_err-refuse-2.field-0.0 = search rules in
    e ∙ refused_next (up_to 5) _ (clear_5 (goal.at.returns-in_err-refuse-2 c).In_ok-refuse) c.loop_word.ensures c.refuse-2.ensures _ c.in_err-refuse-2.was

pub crowded_part-requires : goal.crowded_part-requires
unfolding list_checks filter
crowded_part-requires c = clear_next (up_to 5) _ (clear_5 (goal.at.crowded_part-requires c).In_ok-refuse) c.loop_word.ensures c.refuse-2.ensures c.in_ok-refuse-2.was

pub returns : goal.returns
unfolding list_checks filter
returns c =
    decided_next (up_to 6) _
    (clear_next (up_to 5) _ (clear_5 (goal.at.returns c).In_ok-refuse) c.loop_word.ensures c.refuse-2.ensures c.in_ok-refuse-2.was)
    c.crowded_part.ensures c.refuse-3.ensures
