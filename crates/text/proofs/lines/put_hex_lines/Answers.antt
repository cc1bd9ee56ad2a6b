use mathlib.Core.Path.{ap}
use native.Mathlib.Omega.{arith}
use lib.Seq.{take_all}
use Rattle.lists.proofs.Stores.{stored_none, stored_as, stored_kept}
use Rattle.text.specs.Lines.{hex_lines}
use Rattle.text.proofs.LineLaws.{lines_next, lines_place}
use Rattle.text.proofs.lines.put_hex_lines.Goals as goal

pub loop-word-init : goal.loop-word-init
unfolding hex_lines
loop-word-init c = (omega arith, stored_none _ (omega arith))

pub put_hex_line-next-requires : goal.put_hex_line-next-requires
put_hex_line-next-requires c = omega (arith, lines_place c.args.words.now c.loop-word.word-index (omega arith) c.loop-word.invariant.1, stored_kept c.loop-word.invariant.1)

pub loop-word-preserved : goal.loop-word-preserved
loop-word-preserved c = (omega arith, lines_next c.args.words.now c.loop-word.word-index (omega arith) c.loop-word.invariant.1 c.put_hex_line-next.ensures)

pub returns : goal.returns
returns c = stored_as (ap hex_lines (take_all c.loop-word.word-index c.args.words.now (omega arith))) c.loop-word.invariant.1
