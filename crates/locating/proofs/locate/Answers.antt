-- `locating::locate` meets its contract. Assumes nothing.
use native.Mathlib.Omega.{arith}
use mathlib.Core.Path.{◌≡◌, sym, ◌∙◌}
use Rattle.checks.specs.Checks.{passed}
use Rattle.order.proofs.Passed.{lines_most}
use Rattle.validation.specs.Outcome.{sheet_verdict}
use Rattle.locating.proofs.Reading.{list_passes, sheet_follows, readable}
use Rattle.locating.proofs.Answering.{locate_21, locate_22, locate_11, locate_answers}
use Rattle.locating.proofs.locate.Goals as goal
use Rattle.locating.proofs.locate.Goals.{In_default}

-- the sheet is accepted
accepted : (c : In_default) → sheet_verdict c.args.list.now c.args.sheet.now ≡ passed
accepted c = sym c.check_sheet.ensures.answers ∙ c.in_default.is

pub returns-then-count-gt-MOST_MARKS : goal.returns-then-count-gt-MOST_MARKS
returns-then-count-gt-MOST_MARKS c = locate_21 _ _ _ _ c.if-count-gt-MOST_MARKS.true

pub returns-in-Err : goal.returns-in-Err
returns-in-Err c = locate_22 _ _ _ _ c.if-count-gt-MOST_MARKS.false (sym c.check_sheet.ensures.answers ∙ c.in-Err.is)

pub returns-then-hits-count : goal.returns-then-hits-count
returns-then-hits-count c =
    locate_11 _ _ _ _ c.if-count-gt-MOST_MARKS.false (accepted (goal.at.returns-then-hits-count c).In_default) c.if-hits-count.true

pub invariant_of-screen : goal.invariant_of-screen
invariant_of-screen c =
    let pass = accepted (goal.at.invariant_of-screen c).In_default in
    let most = lines_most _ (list_passes _ _ pass) in
    record { readable = readable _ _ pass (omega (arith, c.choose_directions.auto.forward)) c.choose_directions.ensures }

pub returns : goal.returns
returns c = locate_answers _ _ _ _ c.if-count-gt-MOST_MARKS.false (accepted (goal.at.returns c).In_default) c.if-hits-count.false
    c.answer_all.ensures
