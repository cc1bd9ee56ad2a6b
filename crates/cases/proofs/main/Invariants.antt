-- `cases::main` ends: each turn takes words off the front. Assumes nothing.
use Rattle.std.proofs.Common.{length}
use Rattle.cases.proofs.main.Given as goal

abbrev pub decreases-loop-call : goal.decreases-loop-call
decreases-loop-call l = length l.words
