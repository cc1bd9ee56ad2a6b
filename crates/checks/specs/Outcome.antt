-- What a call answers that writes into a row which it is lent, and what it leaves there: for rows of words, and of any other element.
-- Assumes nothing.
use Rattle.checks.specs.declared.Fault.{Fault}
use Rattle.checks.specs.Checks.{Verdict}
use Rattle.checks.specs.declared.Fault.TheVariants as faults
use Rattle.std.specs.Prelude.{ℕ, cond, List, ◌++◌, length, drop, ltb, Ok, Err}

-- what is written, with what the call returns beside it; or a refusal, which 'returns its number and one place'
pub data Outcome (A B : Type 0) : Type 0 where
  written : (row : List A) (result : B) → Outcome A B
  sent_back : (fault : Fault) (place : ℕ) → Outcome A B

-- 11: 'output shorter than the sheet', 'words of the sheet': the row has no room for all that is to be written
unfoldable pub fitted : {A B : Type 0} → List A → B → ℕ → Outcome A B
fitted row result room = cond (ltb room (length row)) (sent_back faults.OutputTooShort (length row)) (written row result)

-- what is answered behind a verdict on what the call was given
unfoldable pub if_passed : {A B : Type 0} → Verdict → Outcome A B → Outcome A B
if_passed (Ok u) o = o
if_passed (Err r) o = sent_back r.fault r.place

-- the row once an outcome is given: what is written, then what stood there; a refusal 'writes no word'
abbrev pub row_after : {A B : Type 0} → Outcome A B → List A → List A
row_after (written row result) before = row ++ drop (length row) before
row_after (sent_back check place) before = before
