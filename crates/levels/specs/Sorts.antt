-- Request 2026-08: 'a second row of n words of kind 9, by part number', what each part does to a signal, and checks 17 and 18. Assumes
-- nothing.
use Rattle.std.specs.Prelude.{ℕ, Bool, cond, not, ◌&&◌, ◌||◌, List, [], ◌∷◌, length, get_or, eqb, ltb, ℤ, pos, neg_ℤ, Option}
use Rattle.lists.specs.Search.{seek}
use Rattle.words.specs.Words.{kind_of, part_sort, sort_of, sort_spare_of, steps_of, joint_sort, pad_sort, amplifier_sort}
use Rattle.station.specs.Station.{station_of}
use Rattle.checks.specs.declared.Fault.TheVariants as faults
use Rattle.checks.specs.Checks.{Check, at_when}

-- 'bits 15 to 0 count 1/64 dB up to 6,400', which is 100 dB
abbrev pub most_steps : ℕ
most_steps = 6400

-- what a word of kind 9 adds to a level, in 1/64 dB: 'a gain adds and a loss subtracts', a joint leaves it
unfoldable pub gain_of : ℕ → ℤ
gain_of w = cond (eqb (sort_of w) pad_sort) (neg_ℤ (pos (steps_of w))) (cond (eqb (sort_of w) amplifier_sort) (pos (steps_of w)) (pos 0))

-- a word 'of wrong kind, sort or spare bits'
unfoldable pub misformed : ℕ → Bool
misformed w = not (eqb (kind_of w) part_sort) || ltb amplifier_sort (sort_of w) || not (eqb (sort_spare_of w) 0)

-- 17: 'place the first such word', wherever it stands in the row
unfoldable pub check17 : List ℕ → Option ℕ
check17 row = seek (λ i. misformed (get_or row i 0)) 0 (length row)

-- 17: 'words other than n', 'n where only the number of words is wrong'
unfoldable pub check17_count : ℕ → List ℕ → Option ℕ
check17_count n row = at_when (not (eqb (length row) n)) n

-- 'a number above 6,400 or not 0 at a joint'
unfoldable pub misnumbered : ℕ → Bool
misnumbered w = ltb most_steps (steps_of w) || (eqb (sort_of w) joint_sort && not (eqb (steps_of w) 0))

-- 18: 'place the lowest such part'
unfoldable pub check18 : List ℕ → Option ℕ
check18 row = seek (λ p. misnumbered (get_or row p 0)) 0 (length row)

-- 17 and 18 'in that sequence', of a row beside a list
unfoldable pub sort_checks : List ℕ → List Check
sort_checks row =
    record { fault = faults.MisformedSort; finds = λ list. check17 row }
    ∷ record { fault = faults.MisformedSort; finds = λ list. check17_count (station_of list).parts row }
    ∷ record { fault = faults.MisnumberedSort; finds = λ list. check18 row }
    ∷ []
