-- `signals::sorts::check_sorts` meets its contract: each check behind those that find nothing. Assumes nothing.
use Rattle.std.proofs.Common.{rules, ◌≡◌, ℕ, List, [], ◌∷◌, Err, ap, ◌∙◌}
use Rattle.checks.specs.Checks.{Check, Clear}
use Rattle.checks.specs.declared.Fault.TheVariants as faults
use Rattle.checks.proofs.FirstRefusal.{refused_next, clear_next, decided_next, no_check}
use Rattle.station.specs.Station.{station_of}
use Rattle.levels.specs.Sorts.{check17, check17_count, sort_checks}
use Rattle.signals.proofs.sorts.check_sorts.Goals.{In_ok-refuse}
use Rattle.signals.proofs.sorts.check_sorts.Goals as goal

-- the checks made so far
formed : List ℕ → List Check
formed row = record { fault = faults.MisformedSort; finds = λ list. check17 row } ∷ []

counted : List ℕ → List Check
counted row =
    record { fault = faults.MisformedSort; finds = λ list. check17 row }
    ∷ record { fault = faults.MisformedSort; finds = λ list. check17_count (station_of list).parts row }
    ∷ []

clear_formed : (c : In_ok-refuse) → Clear (formed c.args.row.now) c.args.list.now
unfolding formed
clear_formed c = clear_next [] _ (no_check _) c.misformed_word.ensures c.refuse.ensures c.in_ok-refuse.was

pub returns-in_err-refuse : goal.returns-in_err-refuse
unfolding sort_checks
returns-in_err-refuse c =
    let e : c.from_residual.result ≡ Err c.in_err-refuse.field-0.0 = search rules in
    e ∙ refused_next [] _ (no_check _) c.misformed_word.ensures c.refuse.ensures _ c.in_err-refuse.was

pub returns-in_err-refuse-2 : goal.returns-in_err-refuse-2
unfolding sort_checks formed
returns-in_err-refuse-2 c =
    let e : c.from_residual-in_err-refuse-2.result ≡ Err c.in_err-refuse-2.field-0.0 = search rules in
    e
    ∙ refused_next (formed c.args.row.now) _ (clear_formed (goal.at.returns-in_err-refuse-2 c).In_ok-refuse)
    (c.wrong_count.ensures ∙ ap (λ n. check17_count n c.args.row.now) c.part_count.ensures) c.refuse-2.ensures _ c.in_err-refuse-2.was

pub returns : goal.returns
unfolding sort_checks formed counted
returns c =
    decided_next (counted c.args.row.now) _
    (clear_next (formed c.args.row.now) _ (clear_formed (goal.at.returns c).In_ok-refuse)
    (c.wrong_count.ensures ∙ ap (λ n. check17_count n c.args.row.now) c.part_count.ensures) c.refuse-2.ensures c.in_ok-refuse-2.was)
    c.misnumbered_part.ensures c.refuse-3.ensures
