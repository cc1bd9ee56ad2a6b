use native.Mathlib.Omega.{arith}
use lib.ListN.{length-set}
use Rattle.lists.proofs.Stores.{stored_one, stored_append, stored_kept}
use Rattle.text.specs.Lines.{decimal, refused_line}
use Rattle.text.proofs.LineLaws.{digits_place}
use Rattle.text.proofs.lines.put_refused.Goals as goal

pub bounds-out-space : goal.bounds-out-space
bounds-out-space c =
    omega (
      arith,
      stored_kept c.put_text-number.ensures,
      digits_place 20 _ c.put_digits-space.ensures,
      stored_kept c.put_digits-space.ensures,
    )

pub overflow_add-space : goal.overflow_add-space
overflow_add-space c =
    record {
      fits = omega (
        arith,
        stored_kept c.put_text-number.ensures,
        digits_place 20 _ c.put_digits-space.ensures,
        stored_kept c.put_digits-space.ensures,
      );
    }

pub put_digits-end-requires : goal.put_digits-end-requires
put_digits-end-requires c =
    simp length-set (omega (
      arith,
      stored_kept c.put_text-number.ensures,
      digits_place 20 _ c.put_digits-space.ensures,
      stored_kept c.put_digits-space.ensures,
    ))

pub bounds-out-end : goal.bounds-out-end
bounds-out-end c =
    omega (
      arith,
      stored_kept c.put_text-number.ensures,
      digits_place 20 _ c.put_digits-space.ensures,
      stored_kept c.put_digits-space.ensures,
      length-set c.put_digits-space.new.out c.put_digits-space.result 32,
      digits_place 20 _ c.put_digits-end.ensures,
      stored_kept c.put_digits-end.ensures,
    )

pub overflow_add-result : goal.overflow_add-result
overflow_add-result c =
    record {
      fits = omega (
        arith,
        stored_kept c.put_text-number.ensures,
        digits_place 20 _ c.put_digits-space.ensures,
        stored_kept c.put_digits-space.ensures,
        digits_place 20 _ c.put_digits-end.ensures,
      );
    }

pub returns : goal.returns
unfolding refused_line decimal
returns c =
    stored_append c.put_text-number.ensures
    (stored_append c.put_digits-space.ensures
    (stored_append (stored_one _ _ 32)
    (stored_append c.put_digits-end.ensures (stored_one _ _ 10))))
