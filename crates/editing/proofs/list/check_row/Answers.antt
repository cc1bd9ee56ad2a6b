-- `editing::list::check_row` meets its contract. Assumes nothing.
use native.Mathlib.Omega.{arith}
use mathlib.Core.Path.{sym, ap, ◌∙◌}
use lib.Seq.{length-take-le}
use Rattle.checks.specs.Checks.{first_refusal}
use Rattle.station.specs.Checks.{list_checks}
use Rattle.editor.proofs.Rows.{length_is, taken}
use Rattle.editor.proofs.Verdicts.{row_verdict}
use Rattle.editing.proofs.list.check_row.Goals as goal

pub slice_bounds-check_list-end : goal.slice_bounds-check_list-end
slice_bounds-check_list-end c = sym (length-take-le _ _ (omega (arith, c.list_length.ensures, length_is c.args.row.now)))

pub returns : goal.returns
returns c = c.check_list.ensures ∙ ap (first_refusal list_checks) (taken _ c.list_length.ensures) ∙ sym (row_verdict _)
