-- What the code asks of a new cable. Assumes nothing.
use Rattle.std.specs.Prelude.{ℕ, ◌+◌, ◌<◌, ◌≤◌, List, length}
use Rattle.words.specs.Limits.{most_field}
use Rattle.editor.specs.declared.Proposal.{Proposal}
use Rattle.editor.specs.Rows.{present}

-- two part numbers that have room in the fields of a cable's word
pub record InFields (one other : ℕ) : Type 0 where
  pub first : one ≤ most_field
  pub second : other ≤ most_field

-- a cable that has room in its word, in the row and in the head's count
pub record Storable (p : Proposal) (row : List ℕ) : Type 0 where
  pub fields : InFields p.one p.other
  pub room : present row + 2 < length row
  pub counted : present row + 1 < 65536
