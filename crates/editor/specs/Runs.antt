-- Request 2026-07: 'any run of tries and lays', and what it leaves. Assumes nothing.
use Rattle.std.specs.Prelude.{ℕ, ◌≡◌, List, [], ◌∷◌, ◌++◌, length, drop, Ok, Err}
use Rattle.words.specs.Words.{cable_word}
use Rattle.checks.specs.Checks.{Clear, Verdict}
use Rattle.station.specs.Checks.{list_checks}
use Rattle.editor.specs.Rows.{list_in, followed_by}
use Rattle.editor.specs.Operations.{Operation, Propose, Commit, effect}

-- the row behind one operation after the other, 'with nothing else writing to it'
unfoldable pub run : List Operation → List ℕ → List ℕ
run [] row = row
run (operation ∷ operations) row = run operations (effect operation row).row

-- the cable's word of a successful lay
unfoldable pub laid_by : Operation → Verdict → List ℕ
laid_by (Propose one other) verdict = []
laid_by (Commit p) (Ok u) = cable_word p.one p.other ∷ []
laid_by (Commit p) (Err r) = []

-- 'the cables of the successful lays, in their sequence'
unfoldable pub laid : List Operation → List ℕ → List ℕ
laid [] row = []
laid (operation ∷ operations) row = laid_by operation (effect operation row).verdict ++ laid operations (effect operation row).row

-- what a run leaves of a row: 'that list followed by the cables of the successful lays, in their sequence', which passes checks 1 to 8, and
-- behind it what stood there
pub record Grown (operations : List Operation) (row : List ℕ) : Type 0 where
  pub list : list_in (run operations row) ≡ followed_by (list_in row) (laid operations row)
  pub passes : Clear list_checks (list_in (run operations row))
  pub length_kept : length (run operations row) ≡ length row
  pub behind : drop (length (list_in (run operations row))) (run operations row) ≡ drop (length (list_in (run operations row))) row
