-- Request 2026-08: what the call answers for a list, a second row and a length of output, and what it leaves there. Assumes nothing.
use Rattle.checks.specs.declared.Refusal.{Refusal}
use Rattle.std.specs.Prelude.{ℕ, ◌+◌, ◌*◌, ◌<◌, ◌≡◌, List, [], ◌∷◌, ◌++◌, length, get_or, Float, Ok, Result}
use Rattle.std.specs.Float.{nan}
use Rattle.lists.specs.Select.{tabulate}
use Rattle.checks.specs.Checks.{Check, first_refusal, refused}
use Rattle.checks.specs.Outcome.{Outcome, written, sent_back, fitted, if_passed, row_after}
use Rattle.station.specs.Station.{Station, station_of}
use Rattle.order.specs.Checks.{all_checks}
use Rattle.levels.specs.Level.{level_of}
use Rattle.levels.specs.Sorts.{sort_checks}
use Rattle.levels.specs.SignalPaths.{Extremes, levels_at}
use Rattle.levels.specs.Promises.{LevelsAt}

-- 'the least before the greatest'
unfoldable pub in_floats : List Extremes → List Float
in_floats [] = []
in_floats (e ∷ es) = level_of e.least ∷ level_of e.greatest ∷ in_floats es

-- 'The floats stand by part number'
unfoldable pub level_floats : Station → List ℕ → List Float
level_floats st row = in_floats (tabulate st.parts (levels_at st row))

-- 'Both come after 10, in that sequence'
unfoldable pub level_checks : List ℕ → List Check
level_checks row = all_checks ++ sort_checks row

-- 'then 11, with place 2n, where the row lent for the 2n floats is shorter': there are 2n floats (`floats_length` in proofs/Answers), and
-- the call returns their count
unfoldable pub levels_outcome : List ℕ → List ℕ → ℕ → Outcome Float ℕ
levels_outcome list row room =
    let floats = level_floats (station_of list) row in
    if_passed (first_refusal (level_checks row) list) (fitted floats (length floats) room)

-- a success returns the count of floats written; a refusal 'returns its number and one place'
abbrev pub Levelled : Type 0
Levelled = Result ℕ Refusal

-- the answer that an outcome asks for
abbrev pub answer_to : Outcome Float ℕ → Levelled
answer_to (written floats count) = Ok count
answer_to (sent_back check place) = refused check place

-- A call on a list and a second row, with what stood in the output before and after: 'What lies behind them is left as found', and so is
-- all of it after a refusal. After a success the two floats of each part are as promised.
pub record FindsLevels (list row : List ℕ) (before after : List Float) (answer : Levelled) : Type 0 where
  pub answers : answer ≡ answer_to (levels_outcome list row (length before))
  pub output : after ≡ row_after (levels_outcome list row (length before)) before
  pub levels : (floats : ℕ) → answer ≡ Ok floats → (p : ℕ) → p < (station_of list).parts
      → LevelsAt (station_of list) row p (get_or after (2 * p) nan) (get_or after (2 * p + 1) nan)
