-- The words before i are stored, the row behind them is as it was. Assumes nothing.
use Rattle.std.proofs.Common.{ℕ, ◌*◌}
use Rattle.lists.proofs.Fill.{Filled}
use Rattle.text.specs.Bytes.{word_at}
use Rattle.text.proofs.bytes.read_words.Given as goal

abbrev pub invariant-loop-i : goal.invariant-loop-i
invariant-loop-i l = Filled (λ (j : ℕ). word_at l.fn.bytes (4 * j)) 0 l.i l.initial.words l.words
