-- Checks 1 to 8 with any limit of parts in the place of check 4's, as request 2026-11 compares them. Assumes nothing.
use Rattle.std.specs.Prelude.{ℕ, ◌||◌, List, [], ◌∷◌, get_or, ltb, Option}
use Rattle.words.specs.Words.{parts_of}
use Rattle.words.specs.Limits.{least_parts}
use Rattle.checks.specs.declared.Fault.TheVariants as faults
use Rattle.checks.specs.Checks.{Check, at_when}
use Rattle.station.specs.Checks.{check1, check2, check3, check5, check6, check8}

-- document 01's limit: 'A station has 3 to 256 parts'
abbrev pub former_parts : ℕ
former_parts = 256

-- 4 with a limit: n below 3 or above it, 'n'
unfoldable pub check4_within : ℕ → List ℕ → Option ℕ
check4_within most list = let n = parts_of (get_or list 0 0) in at_when (ltb n least_parts || ltb most n) n

unfoldable pub list_checks_within : ℕ → List Check
list_checks_within most =
    record { fault = faults.TooFewWords; finds = check1 }
    ∷ record { fault = faults.MisplacedWord; finds = check2 }
    ∷ record { fault = faults.WrongLength; finds = check3 }
    ∷ record { fault = faults.WrongPartCount; finds = check4_within most }
    ∷ record { fault = faults.PartOutside; finds = check5 }
    ∷ record { fault = faults.SelfLoop; finds = check6 }
    ∷ record { fault = faults.CrowdedPart; finds = check8 }
    ∷ []
