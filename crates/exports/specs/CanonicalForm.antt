-- The C form of the call that puts a list into canonical form (2026-13): how its answer is told. Assumes nothing.
use Rattle.std.specs.Prelude.{ℕ, List}
use Rattle.canonical.specs.Outcome.{Canonicalized, Canonicalizes}
use Rattle.exports.specs.Counts.{Counted, ToldCount}

-- a call, with what stood in the output and in the numbers before and after, and its result: 0 is a canonical list with its words counted
pub record Settled (list before after : List ℕ) (numbers left : Counted) (result : ℕ) : Type 0 where
  pub answer : Canonicalized
  pub does : Canonicalizes list before after answer
  pub told : ToldCount answer numbers left result
