-- What the code that answers marks keeps and reads, in the terms of its definitions. Assumes nothing.
use Rattle.std.specs.Prelude.{ℕ, ◌≤◌, ◌≡◌, Bool, List, length}
use Rattle.words.specs.Limits.{most_field}
use Rattle.checks.specs.Checks as checks
use Rattle.station.specs.Station.{station_of}
use Rattle.validation.specs.Outcome.{sheet_verdict}
use Rattle.sweep.specs.Judged.{Faced}
use Rattle.location.specs.declared.Hit.{Hit}
use Rattle.location.specs.declared.Hit.TheVariants.{Blank, Part, Cable, Crossing}

-- an accepted sheet, and a flag for the direction of each cable
pub record Readable (list sheet : List ℕ) (forward : List Bool) : Type 0 where
  pub passed : sheet_verdict list sheet ≡ checks.passed
  pub flags : length (station_of list).cables ≤ length forward
  pub faced : Faced (station_of list) sheet forward (length (station_of list).cables)

-- what is there with one more cable, of a higher line
abbrev pub with_cable : Hit → ℕ → Hit
with_cable Blank line = Cable line
with_cable (Part p) line = Part p
with_cable (Cable i) line = Crossing i line
with_cable (Crossing i j) line = Crossing i j

-- the numbers of an answer fit the fields of its word
abbrev pub Fits : Hit → Type 0
Fits Blank = Unit
Fits (Part p) = p.0 ≤ most_field
Fits (Cable i) = i ≤ most_field
Fits (Crossing i j) = (i ≤ most_field) × (j ≤ most_field)
