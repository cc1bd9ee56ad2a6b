-- Worked lists in canonical form, and outputs too short. The request names none: these examples are ours, on document 01's stations. Assumes
-- nothing.
use Prim.Native.Nat.{ℕ}
use mathlib.Core.Path.{◌≡◌, refl}
use mathlib.Core.List.{List, [], ◌∷◌}
use Rattle.checks.specs.declared.Fault.TheVariants as faults
use Rattle.checks.specs.Outcome.{written, sent_back}
use Rattle.canonical.specs.Outcome.{canonical_outcome}
use Rattle.canonical.proofs.Computing.{canonical_computing}

-- document 01's triangle, its cables in canonical form
triangle : List ℕ
triangle = 0x10030003 ∷ 0x20000002 ∷ 0x30000001 ∷ 0x30000002 ∷ 0x30001002 ∷ []

record Table : Type 0 where
  listed : canonical_outcome (0x10030003 ∷ 0x20000002 ∷ 0x30000001 ∷ 0x30001002 ∷ 0x30000002 ∷ []) 5 ≡ written triangle 5
  -- every cable turned round
  turned_round : canonical_outcome (0x10030003 ∷ 0x20000002 ∷ 0x30001000 ∷ 0x30002001 ∷ 0x30002000 ∷ []) 5 ≡ written triangle 5
  -- in canonical form already
  again : canonical_outcome triangle 6 ≡ written triangle 5
  -- one word too few
  short : canonical_outcome (0x10030003 ∷ 0x20000002 ∷ 0x30000001 ∷ 0x30001002 ∷ 0x30000002 ∷ []) 4 ≡ sent_back faults.OutputTooShort 5
  -- a doubled cable stays twice, whichever way round it is named
  doubled :
      canonical_outcome (0x10030003 ∷ 0x20000002 ∷ 0x30001002 ∷ 0x30000001 ∷ 0x30002001 ∷ []) 5
      ≡ written (0x10030003 ∷ 0x20000002 ∷ 0x30000001 ∷ 0x30001002 ∷ 0x30001002 ∷ []) 5
  -- the ends are not turned
  ends_kept :
      canonical_outcome (0x10030003 ∷ 0x20002000 ∷ 0x30001002 ∷ 0x30000002 ∷ 0x30001000 ∷ []) 5
      ≡ written (0x10030003 ∷ 0x20002000 ∷ 0x30000001 ∷ 0x30000002 ∷ 0x30001002 ∷ []) 5
  -- no cable: checks 9 and 10 are not made
  no_cable_lem : canonical_outcome (0x10030000 ∷ 0x20000002 ∷ []) 2 ≡ written (0x10030000 ∷ 0x20000002 ∷ []) 2
  -- D's ten cables in reverse
  reversed :
      canonical_outcome (
      0x1005000a
      ∷ 0x20000004
      ∷ 0x30003004
      ∷ 0x30002004
      ∷ 0x30002003
      ∷ 0x30001004
      ∷ 0x30001003
      ∷ 0x30001002
      ∷ 0x30000004
      ∷ 0x30000003
      ∷ 0x30000002
      ∷ 0x30000001
      ∷ []
      ) 12
      ≡ written (
      0x1005000a
      ∷ 0x20000004
      ∷ 0x30000001
      ∷ 0x30000002
      ∷ 0x30000003
      ∷ 0x30000004
      ∷ 0x30001002
      ∷ 0x30001003
      ∷ 0x30001004
      ∷ 0x30002003
      ∷ 0x30002004
      ∷ 0x30003004
      ∷ []
      ) 12
  -- a part with five cables, and no room: 8 comes first
  eight_before_eleven :
      canonical_outcome (0x10060005 ∷ 0x20000005 ∷ 0x30000001 ∷ 0x30000002 ∷ 0x30000003 ∷ 0x30000004 ∷ 0x30000005 ∷ []) 0 ≡ sent_back faults.CrowdedPart 0
  -- document 01's examples of checks 1 to 6
  first : canonical_outcome [] 0 ≡ sent_back faults.TooFewWords 0
  second : canonical_outcome (0x20030000 ∷ 0x20000002 ∷ []) 2 ≡ sent_back faults.MisplacedWord 0
  third : canonical_outcome (0x10030001 ∷ 0x20000002 ∷ []) 2 ≡ sent_back faults.WrongLength 3
  fourth : canonical_outcome (0x10020000 ∷ 0x20000001 ∷ []) 2 ≡ sent_back faults.WrongPartCount 2
  fifth : canonical_outcome (0x10030000 ∷ 0x20000003 ∷ []) 2 ≡ sent_back faults.PartOutside 1
  sixth : canonical_outcome (0x10030000 ∷ 0x20001001 ∷ []) 2 ≡ sent_back faults.SelfLoop 1

table : Table
unfolding canonical_computing triangle
table = record {
  listed = refl;
  turned_round = refl;
  again = refl;
  short = refl;
  doubled = refl;
  ends_kept = refl;
  no_cable_lem = refl;
  reversed = refl;
  eight_before_eleven = refl;
  first = refl;
  second = refl;
  third = refl;
  fourth = refl;
  fifth = refl;
  sixth = refl;
}
