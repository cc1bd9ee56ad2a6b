-- Document 01, 'Lists that are sent back': checks 1 to 8 without 7 (request 2026-12), each with its place. Assumes nothing.
use Rattle.std.specs.Prelude.{ℕ, ◌+◌, ◌-◌, Bool, cond, not, ◌&&◌, ◌||◌, List, [], ◌∷◌, length, get_or, eqb, ltb, leb, Option}
use Rattle.lists.specs.Search.{seek}
use Rattle.words.specs.Words.{kind_of, spare_of, first_of, second_of, parts_of, cables_of, list_head, ends, cable}
use Rattle.words.specs.Limits.{least_parts, most_parts, most_degree}
use Rattle.checks.specs.declared.Fault.TheVariants as faults
use Rattle.checks.specs.Checks.{Check, at_when}
use Rattle.station.specs.Station.{station_of, degree}

-- 1: 'fewer than two words', 'words found'
unfoldable pub check1 : List ℕ → Option ℕ
check1 list = at_when (ltb (length list) 2) (length list)

-- the kind that is right for a position: the head, the ends, then cables
unfoldable pub kind_at : ℕ → ℕ
kind_at i = cond (eqb i 0) list_head (cond (eqb i 1) ends cable)

-- 'a word's kind is wrong for its position, or any of its bits 27 to 24 is set in kind 2 or 3'
unfoldable pub misplaced : ℕ → ℕ → Bool
misplaced i w = not (eqb (kind_of w) (kind_at i)) || ((eqb (kind_of w) ends || eqb (kind_of w) cable) && not (eqb (spare_of w) 0))

-- 2: 'first such word, from 0'
unfoldable pub check2 : List ℕ → Option ℕ
check2 list = seek (λ i. misplaced i (get_or list i 0)) 0 (length list)

-- 3: 'words other than m + 2', 'm + 2'
unfoldable pub check3 : List ℕ → Option ℕ
check3 list = let due = cables_of (get_or list 0 0) + 2 in at_when (not (eqb (length list) due)) due

-- 4: 'n below 3 or above' 512, 'n'; 2026-11: 'Check 4 allows 512'
unfoldable pub check4 : List ℕ → Option ℕ
check4 list = let n = parts_of (get_or list 0 0) in at_when (ltb n least_parts || ltb most_parts n) n

-- a part number of the word is n or more
unfoldable pub outside : ℕ → ℕ → Bool
outside n w = leb n (first_of w) || leb n (second_of w)

-- 5: 'a part number n or more', 'first such word'
unfoldable pub check5 : List ℕ → Option ℕ
check5 list = let n = parts_of (get_or list 0 0) in seek (λ i. outside n (get_or list i 0)) 1 (length list - 1)

-- 6: 's equals t, or a cable joins a part to itself', 'first such word'
unfoldable pub check6 : List ℕ → Option ℕ
check6 list = seek (λ i. eqb (first_of (get_or list i 0)) (second_of (get_or list i 0))) 1 (length list - 1)

-- 8: 'a part with more than four cables', 'lowest such part'
unfoldable pub check8 : List ℕ → Option ℕ
check8 list = let st = station_of list in seek (λ p. ltb most_degree (degree st.cables p)) 0 st.parts

-- the checks of a list's words, in their order; 2026-12: 'check 7 no longer occurs and its number stays empty'
unfoldable pub list_checks : List Check
list_checks =
    record { fault = faults.TooFewWords; finds = check1 }
    ∷ record { fault = faults.MisplacedWord; finds = check2 }
    ∷ record { fault = faults.WrongLength; finds = check3 }
    ∷ record { fault = faults.WrongPartCount; finds = check4 }
    ∷ record { fault = faults.PartOutside; finds = check5 }
    ∷ record { fault = faults.SelfLoop; finds = check6 }
    ∷ record { fault = faults.CrowdedPart; finds = check8 }
    ∷ []
