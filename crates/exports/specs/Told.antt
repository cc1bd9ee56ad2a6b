-- How a call of the C form tells its answer: by its result, the place that is lent to it, and what else is lent. Assumes nothing.
use Rattle.std.specs.Prelude.{ℕ, ◌≡◌, Result, Ok, Err}
use Rattle.checks.specs.declared.Refusal.{Refusal}
use Rattle.checks.specs.Checks.{number_of}

-- 0 for a success, which is stored, and the place stays; for a refusal its number, with its place stored, and what else has to hold
unfoldable pub Told : {A : Type 0} → (A → Type 0) → Type 0 → Result A Refusal → ℕ → ℕ → ℕ → Type 0
Told Stored Refused (Ok x) before after result = (result ≡ 0) × (after ≡ before) × Stored x
Told Stored Refused (Err r) before after result = (result ≡ number_of r.fault) × (after ≡ r.place) × Refused
