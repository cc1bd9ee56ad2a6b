-- Request 2026-07: what an operation on a row answers, and the row that it leaves. The contracts of both calls cite these definitions.
-- Assumes nothing.
use Rattle.std.specs.Prelude.{ℕ, ◌+◌, List, get_or, set, Result, Ok, Err}
use Rattle.words.specs.Words.{cable_word}
use Rattle.checks.specs.declared.Refusal.{Refusal}
use Rattle.checks.specs.Checks.{Check, first_refusal, Verdict}
use Rattle.editor.specs.declared.Proposal.{Proposal}
use Rattle.editor.specs.Rows.{present, raised_by}
use Rattle.editor.specs.Checks.{propose_checks, commit_checks}

-- 'try' a cable between two parts, and 'lay' a slip
pub data Operation : Type 0 where
  Propose : (one other : ℕ) → Operation
  Commit : (proposal : Proposal) → Operation

-- what is tested, the first that applies is the refusal
unfoldable pub checks_of : Operation → List Check
checks_of (Propose one other) = propose_checks one other
checks_of (Commit proposal) = commit_checks proposal

-- laying 'adds the cable's word, raises m by 1 and touches no other word'
unfoldable pub stored : Proposal → List ℕ → List ℕ
stored p row = set (set row (present row + 2) (cable_word p.one p.other)) 0 (raised_by 1 (get_or row 0 0))

-- the row behind a verdict: 'Trying a cable changes nothing', and neither does a refusal
unfoldable pub leaves : Operation → Verdict → List ℕ → List ℕ
leaves (Propose one other) verdict row = row
leaves (Commit proposal) (Ok u) row = stored proposal row
leaves (Commit proposal) (Err r) row = row

-- what one operation does: what its checks say, and the row that it leaves
pub record Effect : Type 0 where
  pub verdict : Verdict
  pub row : List ℕ

unfoldable pub effect : Operation → List ℕ → Effect
effect operation row =
    let verdict = first_refusal (checks_of operation) row in
    record { verdict = verdict; row = leaves operation verdict row }

-- a 'slip, holding the cable and the count of cables then present'
unfoldable pub slip : ℕ → ℕ → List ℕ → Proposal
slip one other row = record { one = one; other = other; version = present row }

-- trying 'answers with a slip .. or with the refusal'
abbrev pub Proposed : Type 0
Proposed = Result Proposal Refusal

-- the answer behind a verdict
abbrev pub answered : Verdict → Proposal → Proposed
answered (Ok u) proposal = Ok proposal
answered (Err r) proposal = Err r

unfoldable pub proposed : ℕ → ℕ → List ℕ → Proposed
proposed one other row = answered (effect (Propose one other) row).verdict (slip one other row)
