use native.Mathlib.Omega.{arith}
use Rattle.lists.proofs.Stores.{stored_kept}
use Rattle.text.proofs.LineLaws.{no_digit, one_digit, last_digit, digits_place}
use Rattle.text.proofs.lines.+put_digits.Goals as goal

pub returns-then-k-eq0 : goal.returns-then-k-eq0
returns-then-k-eq0 t c = no_digit _ _ _ _ c.if-k-eq0.true

pub returns-then-x-lt10 : goal.returns-then-x-lt10
returns-then-x-lt10 t c = one_digit _ _ _ _ c.if-k-eq0.false c.if-x-lt10.true

pub bounds-out-last : goal.bounds-out-last
bounds-out-last t c = omega (arith, digits_place _ _ c.put_digits-last.ensures, stored_kept c.put_digits-last.ensures)

pub overflow_add-result-2 : goal.overflow_add-result-2
overflow_add-result-2 t c = record { fits = omega (arith, digits_place _ _ c.put_digits-last.ensures, stored_kept c.put_digits-last.ensures) }

pub returns : goal.returns
returns t c = last_digit _ _ c.if-k-eq0.false (omega arith) c.put_digits-last.ensures
