-- The law of the count, over the layout's own numbers. Assumes nothing.
use native.Mathlib.Omega.{arith}
use Rattle.placement.proofs.Layouts.{word_count, parts_few}
use Rattle.measuring.proofs.counts.count_words.Goals as goal

pub overflow_sub-result : goal.overflow_sub-result
overflow_sub-result c = omega (arith, parts_few c.args.layout.now)

pub returns : goal.returns
returns c = λ spacing. omega (arith, word_count c.args.layout.now spacing)
