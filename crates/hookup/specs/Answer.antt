-- What an answer of the call says, in document 01's terms, and what is promised of the output. Assumes nothing.
use Rattle.std.specs.Prelude.{ℕ, ◌≡◌, List, length, take, Result, Ok, Err}
use Rattle.hookup.specs.declared.Options.{Options}
use Rattle.hookup.specs.declared.Sheet.{Sheet}
use Rattle.checks.specs.declared.Refusal.{Refusal}
use Rattle.checks.specs.Checks.{number_of}
use Rattle.checks.specs.Outcome.{written, sent_back, row_after}
use Rattle.hookup.specs.Outcome.{Outcome, outcome}
use Rattle.hookup.specs.Demand.{Demand3, Ordered, Crossed}

-- 'A successful call returns the words written and the crossings'; a refusal 'returns its number and one place'.
abbrev pub Answer : Type 0
Answer = Result Sheet Refusal

-- the same in numbers alone
pub data Reply : Type 0 where
  counts : (words crossings : ℕ) → Reply
  refusal : (check place : ℕ) → Reply

-- the reply that an answer is
abbrev pub reply_of : Answer → Reply
reply_of (Ok s) = counts s.words s.crossings
reply_of (Err r) = refusal (number_of r.fault) r.place

-- the reply that an outcome asks for
abbrev pub reply : Outcome → Reply
reply (written words crossings) = counts (length words) crossings
reply (sent_back fault place) = refusal (number_of fault) place

-- what is demanded of the words that a sheet leaves in the output: demand 3, of demand 2 that the parts stand in the smallest st-ordering,
-- and that the crossings are those that the words show
abbrev pub Demanded : Answer → Options → List ℕ → List ℕ → Type 0
Demanded (Ok s) options list output =
    Demand3 options list (take s.words output) × Ordered options list (take s.words output) × Crossed list (take s.words output) s.crossings
Demanded (Err r) options list output = Unit

-- a call on what the caller gives and a list, with what stood in the output before and after
pub record Drew (options : Options) (list before after : List ℕ) (answer : Answer) : Type 0 where
  pub replies : reply_of answer ≡ reply (outcome options list (length before))
  pub output : after ≡ row_after (outcome options list (length before)) before
  pub demands : Demanded answer options list after
