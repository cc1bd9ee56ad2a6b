-- `sequences::main` ends: each turn takes words off the front. Assumes nothing.
use Rattle.std.proofs.Common.{length}
use Rattle.sequences.proofs.main.Given as goal

abbrev pub decreases-loop-sequence : goal.decreases-loop-sequence
decreases-loop-sequence l = length l.words
