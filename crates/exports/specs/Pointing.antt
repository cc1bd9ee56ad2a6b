-- The C form of the calls of a screen that is pointed at (2026-10): how their answers are told. Assumes nothing.
use Rattle.std.specs.Prelude.{ℕ, ◌≡◌, List, [], ◌∷◌, ⊤}
use Rattle.checks.specs.Checks.{Verdict}
use Rattle.bounds.specs.declared.Bounds.{Bounds}
use Rattle.location.specs.declared.Section.{Section}
use Rattle.location.specs.Outcome.{Locates, Selected, Selects, Bounded, Encloses}
use Rattle.exports.specs.Told.{Told}

-- marks, with what stood in the row for the answers and in the place before and after, and the result: 0 where all are answered
pub record Pointed (list sheet marks before after : List ℕ) (place left result : ℕ) : Type 0 where
  pub verdict : Verdict
  pub does : Locates list sheet marks before after verdict
  pub told : Told (λ (u : ⊤). ⊤) ⊤ verdict place left result

-- a chosen cable, with the start and the count that are left, and the place before and after, and the result: 0 is a part of the sheet by
-- its start and its count, which with a refusal is the empty one
pub record Chosen (list sheet : List ℕ) (line start count place left result : ℕ) : Type 0 where
  pub answer : Selected
  pub does : Selects list sheet line answer
  pub told : Told (λ (s : Section). (start ≡ s.start) × (count ≡ s.count)) ((start ≡ 0) × (count ≡ 0)) answer place left result

-- the box of a cable, with what stood in the four numbers and in the place before and after, and the result: 0 is a box of four numbers,
-- which a refusal leaves as they were
pub record Enclosed (list sheet : List ℕ) (line : ℕ) (before after : List ℕ) (place left result : ℕ) : Type 0 where
  pub answer : Bounded
  pub does : Encloses list sheet line answer
  pub told : Told (λ (b : Bounds). after ≡ b.left ∷ b.bottom ∷ b.right ∷ b.top ∷ []) (after ≡ before) answer place left result
