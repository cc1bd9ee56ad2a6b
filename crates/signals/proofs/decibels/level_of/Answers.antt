-- `signals::decibels::level_of` meets its contract: a u16 is below 2 ^ 24, so that nothing is rounded. Assumes nothing.
use native.Mathlib.Omega.{arith}
use Rattle.levels.proofs.Exact.{level_over_64}
use Rattle.signals.proofs.decibels.level_of.Goals as goal

pub returns : goal.returns
returns c = level_over_64 c.args.steps (omega arith)
