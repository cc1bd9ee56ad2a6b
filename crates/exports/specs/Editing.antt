-- The C form of the editor's calls (2026-07): how their answers are told. Assumes nothing.
use Rattle.std.specs.Prelude.{ℕ, ◌≡◌, List, ⊤}
use Rattle.editor.specs.declared.Proposal.{Proposal}
use Rattle.editor.specs.Operations.{Commit, effect, proposed}
use Rattle.exports.specs.Told.{Told}

-- the two numbers that are lent to a try
pub record Noted : Type 0 where
  pub version : ℕ
  pub place : ℕ

abbrev pub noted : ℕ → ℕ → Noted
noted version place = record { version = version; place = place }

-- a try, with what stood in the numbers before and after, and its result: 0 is a slip of the caller's cable and the version noted, and a
-- refusal leaves the version as it was
abbrev pub Tried : ℕ → ℕ → List ℕ → Noted → Noted → ℕ → Type 0
Tried one other row numbers left result =
    Told (λ (slip : Proposal). slip ≡ record { one = one; other = other; version = left.version }) (left.version ≡ numbers.version) (proposed one other row) numbers.place
    left.place result

-- a lay, with what stood in the row and in the place before and after, and its result: 0 is a cable laid
pub record Laid (proposal : Proposal) (before after : List ℕ) (place left : ℕ) (result : ℕ) : Type 0 where
  pub row : after ≡ (effect (Commit proposal) before).row
  pub told : Told (λ (u : ⊤). ⊤) ⊤ (effect (Commit proposal) before).verdict place left result
