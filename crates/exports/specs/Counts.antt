-- The two numbers that are lent to a call which writes a row and counts what it wrote, and which of them stays. Assumes nothing.
use Rattle.std.specs.Prelude.{ℕ, ◌≡◌, Result}
use Rattle.checks.specs.declared.Refusal.{Refusal}
use Rattle.exports.specs.Told.{Told}

-- how many elements are written, and the place of a refusal
pub record Counted : Type 0 where
  pub count : ℕ
  pub place : ℕ

abbrev pub counted : ℕ → ℕ → Counted
counted count place = record { count = count; place = place }

-- 0 where the row is written, and the count is stored; a refusal leaves the count as it was
abbrev pub ToldCount : Result ℕ Refusal → Counted → Counted → ℕ → Type 0
ToldCount answer numbers left result = Told (λ (count : ℕ). left.count ≡ count) (left.count ≡ numbers.count) answer numbers.place left.place result
