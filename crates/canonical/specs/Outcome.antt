-- Request 2026-13: what the call answers for a list and a length of output, and what it leaves there. Assumes nothing.
use Rattle.std.specs.Prelude.{ℕ, ◌≡◌, List, length, Result, Ok}
use Rattle.checks.specs.declared.Refusal.{Refusal}
use Rattle.checks.specs.Checks.{first_refusal, refused}
use Rattle.checks.specs.Outcome.{Outcome, written, sent_back, fitted, if_passed, row_after}
use Rattle.station.specs.Checks.{list_checks}
use Rattle.canonical.specs.Canonical.{canonical}

-- 'It takes lists that pass checks 1 to 8. An output below m + 2 words then gets 11, with m + 2 as its place': the canonical list has m + 2
-- words (`length_due` in proofs/Canonical), and the call returns their count
unfoldable pub canonical_outcome : List ℕ → ℕ → Outcome ℕ ℕ
canonical_outcome list room = if_passed (first_refusal list_checks list) (fitted (canonical list) (length (canonical list)) room)

-- A success returns the count of words written; a refusal 'returns its number and one place'.
abbrev pub Canonicalized : Type 0
Canonicalized = Result ℕ Refusal

-- the answer that an outcome asks for
abbrev pub answer_to : Outcome ℕ ℕ → Canonicalized
answer_to (written row count) = Ok count
answer_to (sent_back check place) = refused check place

-- a call on a list, with what stood in the output before and after: behind the canonical list, and after a refusal, what stood there
pub record Canonicalizes (list before after : List ℕ) (answer : Canonicalized) : Type 0 where
  pub answers : answer ≡ answer_to (canonical_outcome list (length before))
  pub output : after ≡ row_after (canonical_outcome list (length before)) before
