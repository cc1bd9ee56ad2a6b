-- Worked examples of request 2026-07, which names none, as the definitions give them: a list grown in a row of four words and in one of
-- five, and each refusal with its place. Assumes nothing.
use Rattle.checks.specs.Checks.{passed, refused}
use Rattle.std.specs.Prelude.{Ok}
use Rattle.checks.specs.declared.Fault.TheVariants as faults
use Prim.Native.Nat.{ℕ}
use mathlib.Core.Path.{◌≡◌, refl}
use mathlib.Core.List.{List, [], ◌∷◌}
use Rattle.editor.specs.declared.Proposal.{Proposal}
use Rattle.editor.specs.Operations.{Operation, Propose, Commit, effect, proposed}
use Rattle.editor.specs.Runs.{run, laid}
use Rattle.editor.proofs.Computing.{editor_computing}

abbrev proposal : ℕ → ℕ → ℕ → Proposal
proposal one other version = record { one = one; other = other; version = version }

-- three parts without a cable, in a row of four words; what lies behind the list counts for nothing
abbrev row0 : List ℕ
row0 = 0x10030000 ∷ 0x20000002 ∷ 7 ∷ 8 ∷ []

abbrev row1 : List ℕ
row1 = 0x10030001 ∷ 0x20000002 ∷ 0x30000001 ∷ 8 ∷ []

abbrev row2 : List ℕ
row2 = 0x10030002 ∷ 0x20000002 ∷ 0x30000001 ∷ 0x30001002 ∷ []

-- six parts, of which part 0 has four cables, parts 1 to 4 one each and part 5 none
abbrev star : List ℕ
star = 0x10060004 ∷ 0x20000005 ∷ 0x30001000 ∷ 0x30000002 ∷ 0x30000003 ∷ 0x30000004 ∷ 0 ∷ []

-- a run that grows the triangle, with tries among the lays and a slip that is laid twice
abbrev operations : List Operation
operations =
    Propose 0 1
    ∷ Commit (proposal 0 1 0)
    ∷ Propose 1 0
    ∷ Commit (proposal 1 2 1)
    ∷ Commit (proposal 0 1 0)
    ∷ Commit (proposal 0 2 2)
    ∷ []

record Table : Type 0 where
  tried : proposed 0 1 row0 ≡ Ok (proposal 0 1 0)
  laid_first : effect (Commit (proposal 0 1 0)) row0 ≡ record { verdict = passed; row = row1 }
  -- 2026-12: a repeated cable is tried and laid as any other, either way round
  repeated : proposed 0 1 row1 ≡ Ok (proposal 0 1 1)
  turned_round : effect (Commit (proposal 1 0 1)) row1 ≡ record { verdict = passed; row = 0x10030002 ∷ 0x20000002 ∷ 0x30000001 ∷ 0x30001000 ∷ [] }
  tried_second : proposed 1 2 row1 ≡ Ok (proposal 1 2 1)
  laid_second : effect (Commit (proposal 1 2 1)) row1 ≡ record { verdict = passed; row = row2 }
  laid_again : effect (Commit (proposal 0 1 0)) row2 ≡ record { verdict = refused faults.StaleProposal 2; row = row2 }
  no_room : proposed 0 2 row2 ≡ refused faults.RowFull 4
  no_room_to_lay : effect (Commit (proposal 0 2 2)) row2 ≡ record { verdict = refused faults.RowFull 4; row = row2 }
  -- in a row of five words the run leaves the triangle
  triangle : run operations (0x10030000 ∷ 0x20000002 ∷ 0 ∷ 0 ∷ 0 ∷ []) ≡ 0x10030003 ∷ 0x20000002 ∷ 0x30000001 ∷ 0x30001002 ∷ 0x30000002 ∷ []
  cables : laid operations (0x10030000 ∷ 0x20000002 ∷ 0 ∷ 0 ∷ 0 ∷ []) ≡ 0x30000001 ∷ 0x30001002 ∷ 0x30000002 ∷ []
  -- a word behind the fifth stays
  behind : run operations (0x10030000 ∷ 0x20000002 ∷ 0 ∷ 0 ∷ 0 ∷ 9 ∷ []) ≡ 0x10030003 ∷ 0x20000002 ∷ 0x30000001 ∷ 0x30001002 ∷ 0x30000002 ∷ 9 ∷ []
  loop : proposed 0 0 row1 ≡ refused faults.SelfLoop 3
  outside : proposed 0 3 row1 ≡ refused faults.PartOutside 3
  large : proposed 0 4096 row1 ≡ refused faults.PartOutside 3
  -- a number of which the field would hold another cable's
  large_first : proposed 4097 2 row1 ≡ refused faults.PartOutside 3
  crowded : proposed 5 0 star ≡ refused faults.CrowdedPart 0
  repeat_crowded : proposed 1 0 star ≡ refused faults.CrowdedPart 0
  uncrowded : proposed 1 5 star ≡ Ok (proposal 1 5 4)
  -- 5 to 8 before 16, and 15 before all of them
  six_before_sixteen : proposed 1 1 row2 ≡ refused faults.SelfLoop 4
  fifteen_before_five : effect (Commit (proposal 0 4096 1)) row2 ≡ record { verdict = refused faults.StaleProposal 2; row = row2 }
  -- 'a row too short fails check 1 or 3'
  no_words : proposed 0 1 [] ≡ refused faults.TooFewWords 0
  one_word : effect (Commit (proposal 0 1 0)) (0x10030000 ∷ []) ≡ record { verdict = refused faults.TooFewWords 1; row = 0x10030000 ∷ [] }
  too_short : proposed 0 1 (0x10030001 ∷ 0x20000002 ∷ []) ≡ refused faults.WrongLength 3
  refused_list : proposed 0 1 (0x10030000 ∷ 0x20000003 ∷ 0 ∷ []) ≡ refused faults.PartOutside 1

table : Table
unfolding editor_computing
table = record {
  tried = refl;
  laid_first = refl;
  repeated = refl;
  turned_round = refl;
  tried_second = refl;
  laid_second = refl;
  laid_again = refl;
  no_room = refl;
  no_room_to_lay = refl;
  triangle = refl;
  cables = refl;
  behind = refl;
  loop = refl;
  outside = refl;
  large = refl;
  large_first = refl;
  crowded = refl;
  repeat_crowded = refl;
  uncrowded = refl;
  six_before_sixteen = refl;
  fifteen_before_five = refl;
  no_words = refl;
  one_word = refl;
  too_short = refl;
  refused_list = refl;
}
