-- `printing::print_sheet` meets its contract. Assumes nothing.
use mathlib.Core.Path.{sym, ◌∙◌}
use native.Mathlib.Omega.{arith}
use lib.Seq.{length-take-le}
use Rattle.printing.specs.Printed.{room}
use Rattle.printing.proofs.FileLaws.{loaded_count, error_stored, words_stored, prints}
use Rattle.printing.proofs.print_sheet.Goals as goal

pub slice_bounds-words-end : goal.slice_bounds-words-end
slice_bounds-words-end c = omega (arith, (loaded_count _ (sym c.load.ensures.answer ∙ c.in-Ok.is)).1, c.load.auto.words)

pub slice_bounds-print_list-end : goal.slice_bounds-print_list-end
slice_bounds-print_list-end c = sym (length-take-le c.in-Ok.count c.load.new.words ((omega (arith, (loaded_count _ (sym c.load.ensures.answer ∙ c.in-Ok.is)).1, c.load.auto.words))))

pub returns-in-Err : goal.returns-in-Err
returns-in-Err c = let p = prints _ room (omega arith) (omega arith) (error_stored _ room (sym c.load.ensures.answer ∙ c.in-Err.is) c.print_error.ensures) in record { count = p.0; text = p.1 }

pub returns-in-Ok : goal.returns-in-Ok
returns-in-Ok c = let p = prints _ room (omega arith) (omega arith) (words_stored _ room _ _ c.load.ensures.answer c.in-Ok.is c.load.ensures.stored c.print_list.ensures) in record { count = p.0; text = p.1 }
