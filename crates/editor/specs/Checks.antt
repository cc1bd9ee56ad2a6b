-- Request 2026-07: what is tested when a cable is tried, and when it is laid. Assumes nothing.
use Rattle.std.specs.Prelude.{ℕ, ◌+◌, not, ◌||◌, List, [], ◌∷◌, ◌++◌, length, eqb, ltb, leb, Option}
use Rattle.words.specs.Limits.{most_field}
use Rattle.checks.specs.declared.Fault.TheVariants as faults
use Rattle.checks.specs.Checks.{Check, at_when, made_on}
use Rattle.station.specs.Checks.{list_checks}
use Rattle.editor.specs.declared.Proposal.{Proposal}
use Rattle.editor.specs.Rows.{present, list_in, longer}

-- 'Each call first makes checks 1 to 8 on it'
unfoldable pub row_checks : List Check
row_checks = made_on list_in list_checks

-- 'a part number too large for its field gets 5, place m + 2'
unfoldable pub beyond_field : ℕ → ℕ → List ℕ → Option ℕ
beyond_field one other list = at_when (ltb most_field one || ltb most_field other) (present list + 2)

-- 'the refusal .. that the longer list would get'; that it is 'among 5 to 8', and never 7 (2026-12), is a law (`among_5_6_8` in
-- proofs/Verdicts)
unfoldable pub cable_checks : ℕ → ℕ → List Check
cable_checks one other = record { fault = faults.PartOutside; finds = beyond_field one other } ∷ made_on (longer one other) list_checks

-- 15: 'a slip whose count isn't the present one, place the present count'
unfoldable pub check15 : ℕ → List ℕ → Option ℕ
check15 version row = at_when (not (eqb version (present row))) (present row)

-- 16: 'no word left in the row, place its length'
unfoldable pub check16 : List ℕ → Option ℕ
check16 row = at_when (leb (length row) (present row + 2)) (length row)

-- of a new cable, with 16 'tested last at both'
unfoldable pub new_checks : ℕ → ℕ → List Check
new_checks one other = made_on list_in (cable_checks one other) ++ record { fault = faults.RowFull; finds = check16 } ∷ []

-- trying a cable
unfoldable pub propose_checks : ℕ → ℕ → List Check
propose_checks one other = row_checks ++ new_checks one other

-- laying a slip: 15 is 'tested at laying before the new cable is'
unfoldable pub commit_checks : Proposal → List Check
commit_checks p = row_checks ++ record { fault = faults.StaleProposal; finds = check15 p.version } ∷ new_checks p.one p.other
