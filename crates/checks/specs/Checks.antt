-- Document 01, 'Lists that are sent back': the checks of a call in their order, and the first that applies. Assumes nothing.
use Rattle.std.specs.Prelude.{ℕ, ◌≡◌, Bool, cond, List, [], ◌∷◌, ◌++◌, map, Option, Some, None, Result, Ok, Err, ⊤, codes, decimal}
use Rattle.checks.specs.declared.Fault.{Fault}
use Rattle.checks.specs.declared.Fault.TheVariants as faults
use Rattle.checks.specs.declared.Refusal.{Refusal}

-- the numbers of the checks; 2026-12: 'check 7 no longer occurs and its number stays empty'
abbrev pub number_of : Fault → ℕ
number_of faults.TooFewWords = 1
number_of faults.MisplacedWord = 2
number_of faults.WrongLength = 3
number_of faults.WrongPartCount = 4
number_of faults.PartOutside = 5
number_of faults.SelfLoop = 6
number_of faults.CrowdedPart = 8
number_of faults.UnreachedPart = 9
number_of faults.SeparatingPart = 10
number_of faults.OutputTooShort = 11
number_of faults.DiscountTooHigh = 12
number_of faults.WrongSpacing = 13
number_of faults.NumberTooLarge = 14
number_of faults.StaleProposal = 15
number_of faults.RowFull = 16
number_of faults.MisformedSort = 17
number_of faults.MisnumberedSort = 18
number_of faults.OutOfLayout = 19
number_of faults.BrokenRule = 20
number_of faults.TooManyMarks = 21
number_of faults.SheetRefused = 22
number_of faults.NoSuchLine = 23

-- what the checks say: nothing, or a refusal, which 'returns its number and one place'
abbrev pub Verdict : Type 0
Verdict = Result ⊤ Refusal

abbrev pub passed : Verdict
passed = Ok tt

abbrev pub refused : {A : Type 0} → Fault → ℕ → Result A Refusal
refused fault place = Err (record { fault = fault; place = place })

-- what is printed of a refusal: '`refused`, the number and the place, with single spaces'
abbrev pub refusal_text : Refusal → List ℕ
refusal_text r = codes "refused " ++ (decimal (number_of r.fault) ++ (codes " " ++ decimal r.place))

-- A check has the fault that it looks for, and finds its place in a list to which it applies.
pub record Check : Type 0 where
  pub fault : Fault
  pub finds : List ℕ → Option ℕ

-- where its check finds nothing, the later checks decide
unfoldable pub or_else : Fault → Option ℕ → Verdict → Verdict
or_else fault (Some place) later = refused fault place
or_else fault None later = later

-- 'Checks run in this order, each over the whole list before the next. The first that applies is the refusal; it is given then and only
-- then.'
unfoldable pub first_refusal : List Check → List ℕ → Verdict
first_refusal [] list = passed
first_refusal (c ∷ cs) list = or_else c.fault (c.finds list) (first_refusal cs list)

-- none of the checks applies
abbrev pub Clear : List Check → List ℕ → Type 0
Clear checks list = first_refusal checks list ≡ passed

-- a place, where the condition holds
unfoldable pub at_when : Bool → ℕ → Option ℕ
at_when b place = cond b (Some place) None

-- checks of a list, made on another that this one gives
unfoldable pub made_on : (List ℕ → List ℕ) → List Check → List Check
made_on other checks = map (λ (c : Check). record { fault = c.fault; finds = λ list. c.finds (other list) }) checks
