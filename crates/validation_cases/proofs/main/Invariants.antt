-- `validation_cases::main` ends: each turn takes words off the front. Assumes nothing.
use Rattle.std.proofs.Common.{length}
use Rattle.validation_cases.proofs.main.Given as goal

abbrev pub decreases-loop-list : goal.decreases-loop-list
decreases-loop-list l = length l.words
