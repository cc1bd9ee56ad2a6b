-- What the code's floats stand for, what it computes with them, and floats by their bits. Assumes nothing.
use Rattle.std.specs.Prelude.{ℕ, ◌<◌, ◌≤◌, ◌≡◌, cond, List, map, length, get_or, ℤ, ◌+ℤ◌, Float}
use Rattle.std.specs.Float.Ieee as Ieee
use Rattle.std.specs.Float.{binary32}
use Rattle.std.specs.Float.Ieee.{to_bits}
use Rattle.checks.specs.Outcome.{Outcome, written, sent_back}
use Rattle.words.specs.Words.{steps_of}
use Rattle.levels.specs.declared.Levels.{Levels}
use Rattle.levels.specs.declared.Sort.{Sort}
use Rattle.levels.specs.Level.{level_of, behind}
use Rattle.levels.specs.Sorts.{most_steps}
use Rattle.levels.specs.SignalPaths.{Extremes}

-- both levels behind a part
abbrev pub both_behind : Levels → Sort → Levels
both_behind levels sort = record { least = behind levels.least sort; greatest = behind levels.greatest sort }

-- extremes behind a part that adds g
abbrev pub raised : Extremes → ℤ → Extremes
raised e g = record { least = e.least +ℤ g; greatest = e.greatest +ℤ g }

-- extremes in dB
abbrev pub levels_of : Extremes → Levels
levels_of e = record { least = level_of e.least; greatest = level_of e.greatest }

-- the least and the greatest of two levels each
abbrev pub together : Levels → Levels → Levels
together a b = record {
  least = cond (Ieee.lt b.least a.least) b.least a.least;
  greatest = cond (Ieee.lt a.greatest b.greatest) b.greatest a.greatest;
}

-- a row of n words whose numbers are within the limit, as 17 and 18 leave it
pub record RowFits (n : ℕ) (row : List ℕ) : Type 0 where
  pub words : length row ≡ n
  pub steps : (p : ℕ) → p < n → steps_of (get_or row p 0) ≤ most_steps

-- an outcome with the bit patterns of its floats, as examples name them
abbrev pub in_bits : Outcome Float ℕ → Outcome ℕ ℕ
in_bits (written floats count) = written (map (to_bits binary32) floats) count
in_bits (sent_back check place) = sent_back check place
