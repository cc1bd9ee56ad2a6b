-- `signals::decibels::zero` meets its contract: 0.0 is the level of 0. Assumes nothing.
use mathlib.Core.Path.{ap₂}
use Rattle.levels.proofs.Exact.{level_zero}
use Rattle.levels.proofs.Floats.{pair}
use Rattle.signals.proofs.decibels.zero.Goals as goal

pub returns : goal.returns
returns c = ap₂ pair level_zero level_zero
