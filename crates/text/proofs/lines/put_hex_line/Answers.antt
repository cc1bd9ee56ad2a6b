use Prim.Native.Nat.{◌/◌, ◌%◌}
use native.Mathlib.Omega.{arith}
use Rattle.lists.proofs.Stores.{stored_one, stored_append, stored_kept}
use Rattle.text.specs.Lines.{hex_line}
use Rattle.text.proofs.LineLaws.{length_hex_half}
use Rattle.text.proofs.lines.put_hex_line.Goals as goal

pub put_hex_half-end-requires : goal.put_hex_half-end-requires
put_hex_half-end-requires c =
    (omega (arith, length_hex_half (c.args.w / 65536), c.put_hex_half-low.ensures.place, stored_kept c.put_hex_half-low.ensures), omega arith)

pub bounds-out-end : goal.bounds-out-end
bounds-out-end c =
    omega (
      arith,
      length_hex_half (c.args.w / 65536),
      length_hex_half (c.args.w % 65536),
      stored_kept c.put_hex_half-low.ensures,
      stored_kept c.put_hex_half-end.ensures,
    )

pub overflow_add-result : goal.overflow_add-result
overflow_add-result c =
    record {
      fits = omega (
        arith,
        length_hex_half (c.args.w / 65536),
        length_hex_half (c.args.w % 65536),
        stored_kept c.put_hex_half-low.ensures,
        stored_kept c.put_hex_half-end.ensures,
      );
    }

pub returns : goal.returns
unfolding hex_line
returns c = stored_append c.put_hex_half-low.ensures (stored_append c.put_hex_half-end.ensures (stored_one _ _ 10))
