-- The C form of the call that finds the signal levels at every part (2026-08): how its answer is told. Assumes nothing.
use Rattle.std.specs.Prelude.{ℕ, List, Float}
use Rattle.levels.specs.Outcome.{Levelled, FindsLevels}
use Rattle.exports.specs.Counts.{Counted, ToldCount}

-- a call, with what stood in the output and in the numbers before and after, and its result: 0 is a row of levels with its floats counted
pub record Metered (list sorts : List ℕ) (before after : List Float) (numbers left : Counted) (result : ℕ) : Type 0 where
  pub answer : Levelled
  pub does : FindsLevels list sorts before after answer
  pub told : ToldCount answer numbers left result
