-- Request 2026-10 on worked sheets: the triangle's and station D's of document 01. The request names no example: the marks are ours, worked
-- out by hand. Assumes nothing.
use Rattle.checks.specs.Checks.{refused}
use Rattle.std.specs.Prelude.{Ok}
use Prim.Native.Nat.{ℕ}
use mathlib.Core.Path.{◌≡◌, refl}
use mathlib.Core.List.{List, [], ◌∷◌}
use lib.ListN.{replicate, take, drop}
use Rattle.checks.specs.declared.Fault.TheVariants as faults
use Rattle.checks.specs.Outcome.{written, sent_back}
use Rattle.station.specs.Station.{station_of}
use Rattle.location.specs.Hits.{hit_words}
use Rattle.location.specs.Outcome.{locate_outcome, words_at, selected, bounded}
use Rattle.location.proofs.Computing.{location_computing}

triangle : List ℕ
triangle = 0x10030003 ∷ 0x20000002 ∷ 0x30000001 ∷ 0x30001002 ∷ 0x30000002 ∷ []

sheet : List ℕ
sheet = 0x40001002 ∷ 0x50000000 ∷ 0x50000001 ∷ 0x50000002 ∷ 0x60000000 ∷ 0x60001000 ∷ 0x60002002 ∷ 0x70001000 ∷ 0x70001002 ∷ []

-- the same with cable 2 on part 1, and with a word missing
touching : List ℕ
touching = 0x40001002 ∷ 0x50000000 ∷ 0x50000001 ∷ 0x50000002 ∷ 0x60000000 ∷ 0x60001000 ∷ 0x60002000 ∷ []

cut : List ℕ
cut = 0x40001002 ∷ 0x50000000 ∷ 0x50000001 ∷ 0x50000002 ∷ 0x60000000 ∷ 0x60001000 ∷ 0x60002002 ∷ 0x70001000 ∷ []

-- a list that check 10 refuses at part 1
separated : List ℕ
separated = 0x10030002 ∷ 0x20000001 ∷ 0x30000001 ∷ 0x30001002 ∷ []

station_d : List ℕ
station_d =
    0x1005000a ∷ 0x20000004 ∷ 0x30000001 ∷ 0x30000002 ∷ 0x30000003 ∷ 0x30000004 ∷ 0x30001002 ∷ 0x30001003 ∷ 0x30001004 ∷ 0x30002003
    ∷ 0x30002004 ∷ 0x30003004 ∷ []

sheet_d : List ℕ
sheet_d =
    0x40006006 ∷ 0x50002001 ∷ 0x50005002 ∷ 0x50001003 ∷ 0x50002004 ∷ 0x50003005 ∷ 0x60000002 ∷ 0x70002000 ∷ 0x70005000 ∷ 0x60001001
    ∷ 0x70001001 ∷ 0x60002000 ∷ 0x60003001 ∷ 0x70003001 ∷ 0x60004002 ∷ 0x70004002 ∷ 0x70004003 ∷ 0x60005001 ∷ 0x70005004 ∷ 0x60006002
    ∷ 0x70006002 ∷ 0x70006005 ∷ 0x60007002 ∷ 0x70000003 ∷ 0x70000004 ∷ 0x60008001 ∷ 0x70001005 ∷ 0x60009002 ∷ 0x70002006 ∷ 0x70003006 ∷ []

record Table : Type 0 where
  -- part 0; a corner of cable 2; part 1; on a run of cable 2; beyond the head; the farthest mark
  triangle_hits :
      locate_outcome triangle sheet (0x00000000 ∷ 0x00010000 ∷ 0x00000001 ∷ 0x00010001 ∷ 0x00020000 ∷ 0xffffffff ∷ []) 6
      ≡ written (0xb1000000 ∷ 0xb2002000 ∷ 0xb1001000 ∷ 0xb2002000 ∷ 0xb0000000 ∷ 0xb0000000 ∷ []) tt
  -- the five crossings of D by spot, and the same marks the other way round
  d_hits :
      locate_outcome station_d sheet_d (0x00020003 ∷ 0x00030003 ∷ 0x00030004 ∷ 0x00010004 ∷ 0x00020005 ∷ []) 5
      ≡ written (0xb3002004 ∷ 0xb3003004 ∷ 0xb3003005 ∷ 0xb3007008 ∷ 0xb3008009 ∷ []) tt
  d_backward :
      hit_words (station_of station_d) sheet_d (0x00020005 ∷ 0x00010004 ∷ 0x00030004 ∷ 0x00030003 ∷ 0x00020003 ∷ [])
      ≡ 0xb3008009 ∷ 0xb3007008 ∷ 0xb3003005 ∷ 0xb3003004 ∷ 0xb3002004 ∷ []
  -- no mark is answered by no word
  none : locate_outcome triangle sheet [] 0 ≡ written [] tt
  -- 65 marks, whatever the list and the sheet; 64 marks on an empty list
  many : locate_outcome [] [] (replicate 65 0) 65 ≡ sent_back faults.TooManyMarks 65
  many_first : locate_outcome separated cut (replicate 65 0) 0 ≡ sent_back faults.TooManyMarks 65
  most : locate_outcome [] [] (replicate 64 0) 0 ≡ sent_back faults.SheetRefused 0
  most_hits : locate_outcome triangle sheet (replicate 64 0) 64 ≡ written (replicate 64 0xb1000000) tt
  -- the place that 10, 19 and 20 have
  list_place : locate_outcome separated sheet (0 ∷ []) 1 ≡ sent_back faults.SheetRefused 1
  layout_place : locate_outcome triangle cut (0 ∷ []) 1 ≡ sent_back faults.SheetRefused 8
  rules_place : locate_outcome triangle touching (0 ∷ []) 1 ≡ sent_back faults.SheetRefused 2
  -- a row of one word for two answers; behind 22
  short : locate_outcome triangle sheet (0 ∷ 1 ∷ []) 1 ≡ sent_back faults.OutputTooShort 2
  short_behind : locate_outcome triangle touching (0 ∷ 1 ∷ []) 1 ≡ sent_back faults.SheetRefused 2
  -- own words of line 2: `60002002 70001000 70001002`; of line 0 its own word alone
  own_words : selected triangle sheet 2 ≡ words_at 6 3
  their_words : take 3 (drop 6 sheet) ≡ 0x60002002 ∷ 0x70001000 ∷ 0x70001002 ∷ []
  own_word : selected triangle sheet 0 ≡ words_at 4 1
  -- line 3 of three cables; 22 comes first
  no_line : selected triangle sheet 3 ≡ refused faults.NoSuchLine 3
  far_line : selected triangle sheet 0xffff_ffff_ffff_ffff ≡ refused faults.NoSuchLine 0xffff_ffff_ffff_ffff
  not_accepted_lem : selected triangle touching 3 ≡ refused faults.SheetRefused 2
  -- the box of line 2 is from (0, 0) to (1, 2), that of line 1 from (0, 1) to (0, 2)
  own_box : bounded triangle sheet 2 ≡ Ok (record { left = 0; bottom = 0; right = 1; top = 2 })
  straight_box : bounded triangle sheet 1 ≡ Ok (record { left = 0; bottom = 1; right = 0; top = 2 })
  no_box : bounded triangle sheet 3 ≡ refused faults.NoSuchLine 3
  box_refused : bounded triangle cut 3 ≡ refused faults.SheetRefused 8

table : Table
unfolding location_computing triangle sheet touching cut separated station_d sheet_d
table = record {
  triangle_hits = refl;
  d_hits = refl;
  d_backward = refl;
  none = refl;
  many = refl;
  many_first = refl;
  most = refl;
  most_hits = refl;
  list_place = refl;
  layout_place = refl;
  rules_place = refl;
  short = refl;
  short_behind = refl;
  own_words = refl;
  their_words = refl;
  own_word = refl;
  no_line = refl;
  far_line = refl;
  not_accepted_lem = refl;
  own_box = refl;
  straight_box = refl;
  no_box = refl;
  box_refused = refl;
}
