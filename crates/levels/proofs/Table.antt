-- Request 2026-08 on worked stations. The request names no example: these are ours, worked out by hand. A float's bits: 0x3f800000 is 1,
-- 0x40000000 is 2, 0x41200000 is 10, 0x41a00000 is 20, 0x42c80000 is 100, and 0x80000000 more is the same below zero. Assumes nothing.
use Prim.Native.Nat.{ℕ}
use mathlib.Core.Path.{◌≡◌, refl}
use mathlib.Core.List.{List, [], ◌∷◌}
use Rattle.checks.specs.declared.Fault.TheVariants as faults
use Rattle.checks.specs.Outcome.{written, sent_back}
use Rattle.levels.specs.Outcome.{levels_outcome}
use Rattle.levels.specs.Readings.{in_bits}
use Rattle.levels.proofs.Computing.{levels_computing}

-- document 01's triangle, and its station C, whose order is 0, 3, 1, 2
triangle : List ℕ
triangle = 0x10030003 ∷ 0x20000002 ∷ 0x30000001 ∷ 0x30001002 ∷ 0x30000002 ∷ []

station_c_lem : List ℕ
station_c_lem = 0x10040005 ∷ 0x20000002 ∷ 0x30000001 ∷ 0x30000003 ∷ 0x30001003 ∷ 0x30001002 ∷ 0x30000002 ∷ []

-- three parts in a row
chain : List ℕ
chain = 0x10030002 ∷ 0x20000002 ∷ 0x30000001 ∷ 0x30001002 ∷ []

record Table : Type 0 where
  -- a joint, a pad of 10 dB, an amplifier of 20 dB: over the pad 10, past it 20
  branches :
      in_bits (levels_outcome triangle (0x90000000 ∷ 0x91000280 ∷ 0x92000500 ∷ []) 6)
      ≡ written (0 ∷ 0 ∷ 0xc1200000 ∷ 0xc1200000 ∷ 0x41200000 ∷ 0x41a00000 ∷ []) 6
  -- routes climb in rank and not in part number: an amplifier of 2 dB at part 3, which is in front of the pad of 1 dB at part 1
  by_rank :
      in_bits (levels_outcome station_c_lem (0x90000000 ∷ 0x91000040 ∷ 0x90000000 ∷ 0x92000080 ∷ []) 9)
      ≡ written (0 ∷ 0 ∷ 0xbf800000 ∷ 0x3f800000 ∷ 0xbf800000 ∷ 0x3f800000 ∷ 0x40000000 ∷ 0x40000000 ∷ []) 8
  -- joints alone
  joints : in_bits (levels_outcome triangle (0x90000000 ∷ 0x90000000 ∷ 0x90000000 ∷ []) 6) ≡ written (0 ∷ 0 ∷ 0 ∷ 0 ∷ 0 ∷ 0 ∷ []) 6
  -- a pad and an amplifier of the same number in a row: +0
  zero :
      in_bits (levels_outcome chain (0x91000280 ∷ 0x92000280 ∷ 0x91000000 ∷ []) 6)
      ≡ written (0xc1200000 ∷ 0xc1200000 ∷ 0 ∷ 0 ∷ 0 ∷ 0 ∷ []) 6
  -- 6,400 passes, at a pad and at an amplifier
  most :
      in_bits (levels_outcome chain (0x92001900 ∷ 0x91001900 ∷ 0x91001900 ∷ []) 6)
      ≡ written (0x42c80000 ∷ 0x42c80000 ∷ 0 ∷ 0 ∷ 0xc2c80000 ∷ 0xc2c80000 ∷ []) 6
  -- above it, and a joint with a number
  eighteen : levels_outcome triangle (0x90000000 ∷ 0x92001901 ∷ 0x91001901 ∷ []) 6 ≡ sent_back faults.MisnumberedSort 1
  eighteen_joint : levels_outcome triangle (0x90000000 ∷ 0x92001900 ∷ 0x90000001 ∷ []) 6 ≡ sent_back faults.MisnumberedSort 2
  -- a wrong sort, kind, spare bit
  seventeen_sort : levels_outcome triangle (0x90000000 ∷ 0x93000000 ∷ 0x90000000 ∷ []) 6 ≡ sent_back faults.MisformedSort 1
  seventeen_kind : levels_outcome triangle (0x80000000 ∷ 0x93000000 ∷ 0x90000000 ∷ []) 6 ≡ sent_back faults.MisformedSort 0
  seventeen_spare : levels_outcome triangle (0x90000000 ∷ 0x90000000 ∷ 0x91010001 ∷ []) 6 ≡ sent_back faults.MisformedSort 2
  -- words other than n: n, unless a word is wrong too, also behind the n-th
  seventeen_more : levels_outcome triangle (0x90000000 ∷ 0x90000000 ∷ 0x90000000 ∷ 0x90000000 ∷ []) 6 ≡ sent_back faults.MisformedSort 3
  seventeen_less : levels_outcome triangle (0x90000000 ∷ 0x90000000 ∷ []) 6 ≡ sent_back faults.MisformedSort 3
  seventeen_none : levels_outcome triangle [] 6 ≡ sent_back faults.MisformedSort 3
  seventeen_behind : levels_outcome triangle (0x90000000 ∷ 0x90000000 ∷ 0x90000000 ∷ 0x90000000 ∷ 0 ∷ []) 6 ≡ sent_back faults.MisformedSort 4
  -- 17 is done before 18, 18 before 11, and 10 before all
  seventeen_first : levels_outcome triangle (0x90000001 ∷ 0x92001901 ∷ 0x93000000 ∷ []) 0 ≡ sent_back faults.MisformedSort 2
  seventeen_count_first : levels_outcome triangle (0x90000001 ∷ 0x90000000 ∷ 0x90000000 ∷ 0x90000000 ∷ []) 0 ≡ sent_back faults.MisformedSort 3
  eighteen_first : levels_outcome triangle (0x90000000 ∷ 0x90000000 ∷ 0x90000001 ∷ []) 0 ≡ sent_back faults.MisnumberedSort 2
  ten_first : levels_outcome (0x10030002 ∷ 0x20000001 ∷ 0x30000001 ∷ 0x30001002 ∷ []) (0 ∷ []) 0 ≡ sent_back faults.SeparatingPart 1
  -- one float too few
  short : levels_outcome triangle (0x90000000 ∷ 0x91000280 ∷ 0x92000500 ∷ []) 5 ≡ sent_back faults.OutputTooShort 6

table : Table
unfolding levels_computing triangle station_c_lem chain
table = record {
  branches = refl;
  by_rank = refl;
  joints = refl;
  zero = refl;
  most = refl;
  eighteen = refl;
  eighteen_joint = refl;
  seventeen_sort = refl;
  seventeen_kind = refl;
  seventeen_spare = refl;
  seventeen_more = refl;
  seventeen_less = refl;
  seventeen_none = refl;
  seventeen_behind = refl;
  seventeen_first = refl;
  seventeen_count_first = refl;
  eighteen_first = refl;
  ten_first = refl;
  short = refl;
}
