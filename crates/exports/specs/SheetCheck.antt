-- The C form of the call that holds a sheet against its list (2026-09): how its answer is told. Assumes nothing.
use Rattle.std.specs.Prelude.{ℕ, List, ⊤}
use Rattle.checks.specs.Checks.{Verdict}
use Rattle.validation.specs.Outcome.{Validates}
use Rattle.exports.specs.Told.{Told}

-- a call, with the place before and after, and its result: 0 is an accepted sheet
pub record Held (list sheet : List ℕ) (before after result : ℕ) : Type 0 where
  pub verdict : Verdict
  pub does : Validates list sheet verdict
  pub told : Told (λ (u : ⊤). ⊤) ⊤ verdict before after result
