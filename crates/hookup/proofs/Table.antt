-- The ten refusals, the boundaries, and stations A to D of document 01, with the lengths of request 2026-01, the crossings of 2026-02,
-- the corners of 2026-04, the prices of 2026-05, the spacing of 2026-06, the 512 parts of 2026-11, the repeated cables of 2026-12 and the
-- chains of 2026-14, as the definitions give them. Assumes nothing.
use Prim.Native.Nat.{ℕ}
use mathlib.Core.Path.{◌≡◌, refl}
use mathlib.Core.Bool.{true, false}
use mathlib.Core.List.{List, [], ◌∷◌, ◌++◌, map}
use lib.ListN.{length}
use lib.Dec.{eqb}
use Rattle.lists.specs.Select.{count, sum}
use Rattle.words.specs.Words.{kind_of, corner}
use Rattle.prices.specs.PriceList.{ready_length}
use Rattle.prices.specs.Quote.{cable_price, cable_prices}
use Rattle.station.specs.Station.{station_of}
use Rattle.order.specs.Reach.{connected}
use Rattle.order.specs.Order.{order}
use Rattle.order.proofs.Triangle.{triangle}
use Rattle.geometry.specs.Spots.{spot_at}
use Rattle.drawing.specs.Drawing.{Drawing, route_at, cross_pair, crossings}
use Rattle.drawing.specs.Lengths.{cable_lengths}
use Rattle.drawing.specs.Spacing.{on_grid}
use Rattle.drawing.specs.Sheet.{sheet_words}
use Rattle.drawing.proofs.Worked.{thirteen}
use Rattle.hookup.specs.Options.{plain, quoted, spaced_by}
use Rattle.hookup.specs.Drawing.{drawing}
use Rattle.hookup.specs.Outcome.{outcome}
use Rattle.checks.specs.declared.Fault.TheVariants as faults
use Rattle.checks.specs.Outcome.{sent_back, written}
use Rattle.hookup.proofs.Demand3.{sheet_of}
use Rattle.hookup.proofs.Chains.{chain, ring, ring_64, ring_17, ring_16, ring_16_short, ring_9, ring_8, ring_8_short, chain_9, chain_8, chain_8_short}
use Rattle.hookup.proofs.Computing.{hookup_computing}

abbrev pub square : List ℕ
square = 0x10040004 ∷ 0x20000002 ∷ 0x30000001 ∷ 0x30001002 ∷ 0x30002003 ∷ 0x30003000 ∷ []

abbrev pub station_c : List ℕ
station_c = 0x10040005 ∷ 0x20000002 ∷ 0x30000001 ∷ 0x30000003 ∷ 0x30001003 ∷ 0x30001002 ∷ 0x30000002 ∷ []

-- all ten cables among 0 to 4
abbrev pub station_d : List ℕ
station_d =
    0x1005000a
    ∷ 0x20000004
    ∷ 0x30000001
    ∷ 0x30000002
    ∷ 0x30000003
    ∷ 0x30000004
    ∷ 0x30001002
    ∷ 0x30001003
    ∷ 0x30001004
    ∷ 0x30002003
    ∷ 0x30002004
    ∷ 0x30003004
    ∷ []

-- the triangle for print, with column pitch 2, row pitch 3 and margin 10
abbrev pub printed : List ℕ
printed =
    0x4001601a
    ∷ 0x5000a00a
    ∷ 0x5000a00d
    ∷ 0x5000a010
    ∷ 0x60000000
    ∷ 0x60001000
    ∷ 0x60002002
    ∷ 0x7000c00a
    ∷ 0x7000c010
    ∷ 0x80000001
    ∷ 0x80001001
    ∷ 0x80002004
    ∷ 0xa0000006
    ∷ []

-- 2026-12: the triangle with a second cable 0-1; three parts with 0-1 twice, 1-2 twice and 0-2
abbrev pub pair_triangle : List ℕ
pair_triangle = 0x10030004 ∷ 0x20000002 ∷ 0x30000001 ∷ 0x30001002 ∷ 0x30000002 ∷ 0x30000001 ∷ []

abbrev pub pairs : List ℕ
pairs = 0x10030005 ∷ 0x20000002 ∷ 0x30000001 ∷ 0x30000001 ∷ 0x30001002 ∷ 0x30001002 ∷ 0x30000002 ∷ []

-- s has four cables, two of them to rank 1; t has four, two of them from rank n - 2, at which two come in
abbrev pub pair_below : List ℕ
pair_below = 0x10040006 ∷ 0x20000003 ∷ 0x30000002 ∷ 0x30001000 ∷ 0x30000001 ∷ 0x30000003 ∷ 0x30001002 ∷ 0x30002003 ∷ []

abbrev pub pair_above : List ℕ
pair_above = 0x10040007 ∷ 0x20000003 ∷ 0x30000001 ∷ 0x30000002 ∷ 0x30000003 ∷ 0x30001002 ∷ 0x30001003 ∷ 0x30002003 ∷ 0x30003002 ∷ []

-- 2026-14: document 01's example of check 10; a ladder of parts 1 to 6, with 0-1 and 6-7
abbrev pub three_in_line : List ℕ
three_in_line = 0x10030002 ∷ 0x20000002 ∷ 0x30000001 ∷ 0x30001002 ∷ []

abbrev pub chained_ladder : List ℕ
chained_ladder =
    0x10080009
    ∷ 0x20000007
    ∷ 0x30000001
    ∷ 0x30001002
    ∷ 0x30001003
    ∷ 0x30002004
    ∷ 0x30003004
    ∷ 0x30003005
    ∷ 0x30004006
    ∷ 0x30005006
    ∷ 0x30006007
    ∷ []

abbrev drawing_of_list : List ℕ → Drawing
drawing_of_list list = drawing (station_of list)

-- ample room, so that only checks 1 to 10 can refuse
abbrev room : ℕ
room = 8192

pub record Table : Type 0 where
  refusal_1 : outcome plain [] room ≡ sent_back faults.TooFewWords 0
  refusal_2 : outcome plain (0x20030000 ∷ 0x20000002 ∷ []) room ≡ sent_back faults.MisplacedWord 0
  refusal_3 : outcome plain (0x10030001 ∷ 0x20000002 ∷ []) room ≡ sent_back faults.WrongLength 3
  refusal_4 : outcome plain (0x10020000 ∷ 0x20000001 ∷ []) room ≡ sent_back faults.WrongPartCount 2
  refusal_5 : outcome plain (0x10030000 ∷ 0x20000003 ∷ []) room ≡ sent_back faults.PartOutside 1
  refusal_6 : outcome plain (0x10030000 ∷ 0x20001001 ∷ []) room ≡ sent_back faults.SelfLoop 1
  -- 2026-12: check 7's 'example now gets 9 at 2'
  repeated : outcome plain (0x10030002 ∷ 0x20000002 ∷ 0x30000001 ∷ 0x30001000 ∷ []) room ≡ sent_back faults.UnreachedPart 2
  refusal_8 : outcome plain (0x10060005 ∷ 0x20000005 ∷ 0x30000001 ∷ 0x30000002 ∷ 0x30000003 ∷ 0x30000004 ∷ 0x30000005 ∷ []) room ≡ sent_back faults.CrowdedPart 0
  refusal_9 : outcome plain (0x10030001 ∷ 0x20000002 ∷ 0x30000001 ∷ []) room ≡ sent_back faults.UnreachedPart 2
  -- 2026-14: 'Check 10's example is now drawn, with width 0; with t = 1 it is still refused at 1'
  chain_drawn :
      outcome plain three_in_line 9
      ≡ written
      (0x40000002 ∷ 0x50000000 ∷ 0x50000001 ∷ 0x50000002 ∷ 0x60000000 ∷ 0x60001000 ∷ 0x80000001 ∷ 0x80001001 ∷ 0xa0000002 ∷ [])
      0
  refusal_10 : outcome plain (0x10030002 ∷ 0x20000001 ∷ 0x30000001 ∷ 0x30001002 ∷ []) room ≡ sent_back faults.SeparatingPart 1
  -- 2026-01: 'check 11 measures them too: the triangle needs 13'
  refusal_11 : outcome plain triangle 12 ≡ sent_back faults.OutputTooShort 13
  -- 2026-11: 'Check 4 allows 512', and refuses 513
  parts_512 : outcome plain (0x12000000 ∷ 0x20000001 ∷ []) room ≡ sent_back faults.UnreachedPart 1
  parts_513 : outcome plain (0x12010000 ∷ 0x20000001 ∷ []) room ≡ sent_back faults.WrongPartCount 513
  -- 'With 256 parts check 4 passes', and now with 257
  parts_256 : outcome plain (0x11000000 ∷ 0x20000002 ∷ []) room ≡ sent_back faults.UnreachedPart 1
  parts_257 : outcome plain (0x11010000 ∷ 0x20000002 ∷ []) room ≡ sent_back faults.UnreachedPart 1
  -- 'four cables at a part pass check 8'
  four_cables : outcome plain (0x10050004 ∷ 0x20000004 ∷ 0x30000001 ∷ 0x30000002 ∷ 0x30000003 ∷ 0x30000004 ∷ []) room ≡ sent_back faults.SeparatingPart 0
  -- 2026-01: 'The triangle ends `80000001 80001001 80002004 a0000006`', and an output of 13 takes it
  triangle_13 :
      outcome plain triangle 13
      ≡ written
      thirteen
      0
  b_order : order (station_of square) ≡ 0 ∷ 1 ∷ 3 ∷ 2 ∷ []
  b_line_2 : (route_at (drawing_of_list square) 2).corners ≡ spot_at 1 3 ∷ []
  b_line_3 : (route_at (drawing_of_list square) 3).corners ≡ spot_at 1 0 ∷ []
  c_order : order (station_of station_c) ≡ 0 ∷ 3 ∷ 1 ∷ 2 ∷ []
  -- 'Part 1 can't be second: 2 and 3 would be left unjoined.'
  c_left : connected (station_of station_c).cables (2 ∷ 3 ∷ []) ≡ false
  d_width : (drawing_of_list station_d).width ≡ 6
  d_height : (drawing_of_list station_d).height ≡ 6
  d_corners : count (λ w. eqb (kind_of w) corner) (sheet_words on_grid (drawing_of_list station_d)) ≡ 14
  d_words : length (sheet_words on_grid (drawing_of_list station_d)) ≡ 41
  -- 2026-01
  d_lengths : cable_lengths (drawing_of_list station_d) ≡ 6 ∷ 3 ∷ 3 ∷ 5 ∷ 5 ∷ 5 ∷ 7 ∷ 4 ∷ 4 ∷ 4 ∷ []
  d_total : sum (cable_lengths (drawing_of_list station_d)) ≡ 46
  -- 2026-02: the crossings of A, B and C; 2026-04: D has 'still 14 corners, and 5 crossings'
  a_crossings : crossings (drawing_of_list triangle) ≡ 0
  b_crossings : crossings (drawing_of_list square) ≡ 0
  c_crossings : crossings (drawing_of_list station_c) ≡ 0
  d_crossings : crossings (drawing_of_list station_d) ≡ 5
  -- 'those that share a part too': 2-3 and 2-4
  d_shared : cross_pair (drawing_of_list station_d) (route_at (drawing_of_list station_d) 7) (route_at (drawing_of_list station_d) 8) ≡ true
  -- 2026-04: 'D then has its parts at (2,1), (5,2), (1,3), (2,4), (3,5)', and 'no cable has more than two corners'
  d_parts : (drawing_of_list station_d).parts ≡ spot_at 2 1 ∷ spot_at 5 2 ∷ spot_at 1 3 ∷ spot_at 2 4 ∷ spot_at 3 5 ∷ []
  d_bends : map (λ r. length r.corners) (drawing_of_list station_d).routes ≡ 2 ∷ 1 ∷ 0 ∷ 1 ∷ 2 ∷ 1 ∷ 2 ∷ 2 ∷ 1 ∷ 2 ∷ []
  -- 0-1 leaves downward, 3-4 climbs over the top
  d_line_0 : (route_at (drawing_of_list station_d) 0).corners ≡ spot_at 2 0 ∷ spot_at 5 0 ∷ []
  d_line_9 : (route_at (drawing_of_list station_d) 9).corners ≡ spot_at 2 6 ∷ spot_at 3 6 ∷ []
  -- B, C and D pass every check: an output of their words takes them, and one of a word less does not
  b_drawn :
      outcome plain square 16
      ≡ written
      (0x40001003 ∷ 0x50000000 ∷ 0x50000001 ∷ 0x50000003 ∷ 0x50001002 ∷ 0x60000000 ∷ 0x60001000 ∷ 0x60002001 ∷ 0x70001003 ∷ 0x60003001 ∷ 0x70001000 ∷ 0x80000001 ∷ 0x80001002 ∷ 0x80002002 ∷ 0x80003003 ∷ 0xa0000008 ∷ [])
      0
  b_short : outcome plain square 15 ≡ sent_back faults.OutputTooShort 16
  c_drawn :
      outcome plain station_c 20
      ≡ written
      (0x40002003 ∷ 0x50001000 ∷ 0x50000002 ∷ 0x50000003 ∷ 0x50000001 ∷ 0x60000001 ∷ 0x70001002 ∷ 0x60001001 ∷ 0x70000000 ∷ 0x60002000 ∷ 0x60003000 ∷ 0x60004002 ∷ 0x70002000 ∷ 0x70002003 ∷ 0x80000003 ∷ 0x80001002 ∷ 0x80002001 ∷ 0x80003001 ∷ 0x80004006 ∷ 0xa000000d ∷ [])
      0
  c_short : outcome plain station_c 19 ≡ sent_back faults.OutputTooShort 20
  d_drawn :
      outcome plain station_d 41
      ≡ written
      (0x40006006 ∷ 0x50002001 ∷ 0x50005002 ∷ 0x50001003 ∷ 0x50002004 ∷ 0x50003005 ∷ 0x60000002 ∷ 0x70002000 ∷ 0x70005000 ∷ 0x60001001 ∷ 0x70001001 ∷ 0x60002000 ∷ 0x60003001 ∷ 0x70003001 ∷ 0x60004002 ∷ 0x70004002 ∷ 0x70004003 ∷ 0x60005001 ∷ 0x70005004 ∷ 0x60006002 ∷ 0x70006002 ∷ 0x70006005 ∷ 0x60007002 ∷ 0x70000003 ∷ 0x70000004 ∷ 0x60008001 ∷ 0x70001005 ∷ 0x60009002 ∷ 0x70002006 ∷ 0x70003006 ∷ 0x80000006 ∷ 0x80001003 ∷ 0x80002003 ∷ 0x80003005 ∷ 0x80004005 ∷ 0x80005005 ∷ 0x80006007 ∷ 0x80007004 ∷ 0x80008004 ∷ 0x80009004 ∷ 0xa000002e ∷ [])
      5
  d_short : outcome plain station_d 40 ≡ sent_back faults.OutputTooShort 41
  -- 2026-12: 'Among equal ranks of far ends the lower line comes first': line 0 goes left, line 3 in the part's own column
  pair_triangle_lem :
      outcome plain pair_triangle 17
      ≡ written
      (0x40002002 ∷ 0x50001000 ∷ 0x50000001 ∷ 0x50000002 ∷ 0x60000001 ∷ 0x70000000 ∷ 0x60001000 ∷ 0x60002002 ∷ 0x70002000 ∷ 0x70002002 ∷ 0x60003001 ∷ 0x70001001 ∷ 0x80000002 ∷ 0x80001001 ∷ 0x80002005 ∷ 0x80003002 ∷ 0xa000000a ∷ [])
      0
  pair_short : outcome plain pair_triangle 16 ≡ sent_back faults.OutputTooShort 17
  -- lines 0 and 2 left of lines 1 and 3
  pairs_drawn :
      outcome plain pairs 21
      ≡ written
      (0x40003002 ∷ 0x50002000 ∷ 0x50001001 ∷ 0x50001002 ∷ 0x60000001 ∷ 0x70001000 ∷ 0x60001001 ∷ 0x70002001 ∷ 0x60002002 ∷ 0x70000001 ∷ 0x70000002 ∷ 0x60003000 ∷ 0x60004002 ∷ 0x70003000 ∷ 0x70003002 ∷ 0x80000002 ∷ 0x80001002 ∷ 0x80002003 ∷ 0x80003001 ∷ 0x80004005 ∷ 0xa000000d ∷ [])
      0
  -- without 0-2, a chain of pairs (2026-14)
  pairs_chain :
      outcome plain (0x10030004 ∷ 0x20000002 ∷ 0x30000001 ∷ 0x30000001 ∷ 0x30001002 ∷ 0x30001002 ∷ []) 17
      ≡ written
      (0x40002002 ∷ 0x50001000 ∷ 0x50001001 ∷ 0x50000002 ∷ 0x60000000 ∷ 0x60001002 ∷ 0x70002000 ∷ 0x70002001 ∷ 0x60002001 ∷ 0x70000001 ∷ 0x60003001 ∷ 0x70001002 ∷ 0x80000001 ∷ 0x80001003 ∷ 0x80002002 ∷ 0x80003002 ∷ 0xa0000008 ∷ [])
      0
  -- 'where several could leave s downward or climb over t, the lowest line does': line 1 of lines 1 and 2, with three corners
  below_drawn :
      outcome plain pair_below 25
      ≡ written
      (0x40003004 ∷ 0x50001001 ∷ 0x50000002 ∷ 0x50000003 ∷ 0x50000004 ∷ 0x60000001 ∷ 0x70001003 ∷ 0x60001003 ∷ 0x70001000 ∷ 0x70003000 ∷ 0x70003002 ∷ 0x60002001 ∷ 0x70000001 ∷ 0x60003002 ∷ 0x70002001 ∷ 0x70002004 ∷ 0x60004000 ∷ 0x60005000 ∷ 0x80000003 ∷ 0x80001008 ∷ 0x80002002 ∷ 0x80003006 ∷ 0x80004001 ∷ 0x80005001 ∷ 0xa0000015 ∷ [])
      2
  below_bends : map (λ r. length r.corners) (drawing_of_list pair_below).routes ≡ 1 ∷ 3 ∷ 1 ∷ 2 ∷ 0 ∷ 0 ∷ []
  -- line 5 of lines 5 and 6, with three corners
  above_drawn :
      outcome plain pair_above 29
      ≡ written
      (0x40004004 ∷ 0x50003000 ∷ 0x50001001 ∷ 0x50001002 ∷ 0x50002003 ∷ 0x60000001 ∷ 0x70001000 ∷ 0x60001001 ∷ 0x70003002 ∷ 0x60002002 ∷ 0x70004000 ∷ 0x70004003 ∷ 0x60003000 ∷ 0x60004001 ∷ 0x70002001 ∷ 0x60005003 ∷ 0x70000002 ∷ 0x70000004 ∷ 0x70002004 ∷ 0x60006001 ∷ 0x70001003 ∷ 0x80000003 ∷ 0x80001004 ∷ 0x80002006 ∷ 0x80003001 ∷ 0x80004003 ∷ 0x80005006 ∷ 0x80006002 ∷ 0xa0000019 ∷ [])
      1
  above_bends : map (λ r. length r.corners) (drawing_of_list pair_above).routes ≡ 1 ∷ 1 ∷ 2 ∷ 0 ∷ 1 ∷ 3 ∷ 1 ∷ []
  -- 2026-14: a chain of four with s in the middle, which separates the part behind it; with t there; with s at an end it is drawn
  chain_source_inside : outcome plain (0x10040003 ∷ 0x20001003 ∷ 0x30000001 ∷ 0x30001002 ∷ 0x30002003 ∷ []) room ≡ sent_back faults.SeparatingPart 1
  chain_analyser_inside : outcome plain (0x10040003 ∷ 0x20000002 ∷ 0x30000001 ∷ 0x30001002 ∷ 0x30002003 ∷ []) room ≡ sent_back faults.SeparatingPart 2
  -- s in the middle of three
  chain_source_between : outcome plain (0x10030002 ∷ 0x20001002 ∷ 0x30000001 ∷ 0x30001002 ∷ []) room ≡ sent_back faults.SeparatingPart 1
  -- a part with one cable that is neither end is refused at its neighbour
  pendant : outcome plain (0x10040004 ∷ 0x20000002 ∷ 0x30000001 ∷ 0x30001002 ∷ 0x30000002 ∷ 0x30001003 ∷ []) room ≡ sent_back faults.SeparatingPart 1
  -- a ladder of six with a chain at either end
  ladder_drawn :
      outcome plain chained_ladder 32
      ≡ written
      (0x40002007 ∷ 0x50000000 ∷ 0x50000001 ∷ 0x50000002 ∷ 0x50001003 ∷ 0x50000004 ∷ 0x50002005 ∷ 0x50000006 ∷ 0x50000007 ∷ 0x60000000 ∷ 0x60001000 ∷ 0x60002001 ∷ 0x70001001 ∷ 0x60003000 ∷ 0x60004001 ∷ 0x70001004 ∷ 0x60005001 ∷ 0x70002003 ∷ 0x60006000 ∷ 0x60007001 ∷ 0x70002006 ∷ 0x60008000 ∷ 0x80000001 ∷ 0x80001001 ∷ 0x80002003 ∷ 0x80003002 ∷ 0x80004002 ∷ 0x80005003 ∷ 0x80006002 ∷ 0x80007003 ∷ 0x80008001 ∷ 0xa0000012 ∷ [])
      0
  chain_short : outcome plain three_in_line 8 ≡ sent_back faults.OutputTooShort 9
  -- at width 0: prices, and a spacing, whose margins are all of its width
  chain_quoted :
      outcome (quoted 0) three_in_line 12
      ≡ written
      (0x40000002 ∷ 0x50000000 ∷ 0x50000001 ∷ 0x50000002 ∷ 0x60000000 ∷ 0x60001000 ∷ 0x80000001 ∷ 0x80001001 ∷ 0xa0000002 ∷ 970 ∷ 970 ∷ 1940 ∷ [])
      0
  chain_spaced :
      outcome (spaced_by 64 2 3 plain) three_in_line 9
      ≡ written
      (0x4000600a ∷ 0x50003003 ∷ 0x50003005 ∷ 0x50003007 ∷ 0x60000000 ∷ 0x60001000 ∷ 0x80000001 ∷ 0x80001001 ∷ 0xa0000002 ∷ [])
      0
  -- 2026-05: the triangle's runs, and the ready lengths that they take; the longest ready length; 'm + 1 words' more, 'and check 11
  -- measures it'
  a_lengths : cable_lengths (drawing_of_list triangle) ≡ 1 ∷ 1 ∷ 4 ∷ []
  a_taken : map ready_length (cable_lengths (drawing_of_list triangle)) ≡ 2 ∷ 2 ∷ 4 ∷ []
  price_2048 : cable_price 0 2048 ≡ 72580
  quoted_0 : outcome (quoted 0) triangle 17 ≡ written (thirteen ++ 970 ∷ 970 ∷ 1040 ∷ 2980 ∷ []) 0
  quoted_1250 : outcome (quoted 1250) triangle 17 ≡ written (thirteen ++ 849 ∷ 849 ∷ 910 ∷ 2608 ∷ []) 0
  quoted_5 : outcome (quoted 5) triangle 17 ≡ written (thirteen ++ 970 ∷ 970 ∷ 1039 ∷ 2979 ∷ []) 0
  quoted_10000 : outcome (quoted 10000) triangle 17 ≡ written (thirteen ++ 0 ∷ 0 ∷ 0 ∷ 0 ∷ []) 0
  quoted_short : outcome (quoted 0) triangle 16 ≡ sent_back faults.OutputTooShort 17
  -- 'a discount above 10,000, tested before the list; its place is the discount'
  refusal_12 : outcome (quoted 10001) triangle room ≡ sent_back faults.DiscountTooHigh 10001
  refusal_12_first : outcome (quoted 10001) [] 0 ≡ sent_back faults.DiscountTooHigh 10001
  discount_10000 : outcome (quoted 10000) [] 0 ≡ sent_back faults.TooFewWords 0
  -- D's lengths 6, 3, 3, 5, 5, 5, 7, 4, 4 and 4 take 6, 3, 3, 6, 6, 6, 8, 4, 4 and 4 steps; a discount of 10 percent leaves half a cent of
  -- 1,005 cents
  d_quoted :
      cable_prices 1000 (cable_lengths (drawing_of_list station_d)) ≡ 999 ∷ 905 ∷ 905 ∷ 999 ∷ 999 ∷ 999 ∷ 1062 ∷ 936 ∷ 936 ∷ 936 ∷ []
  -- 2026-06: the triangle with column pitch 2, row pitch 3 and margin 10; run lengths 'and the bill still count grid steps'
  spaced_triangle : outcome (spaced_by 2 3 10 plain) triangle 13 ≡ written printed 0
  spaced_quoted : outcome (spaced_by 2 3 10 (quoted 1250)) triangle 17 ≡ written (printed ++ 849 ∷ 849 ∷ 910 ∷ 2608 ∷ []) 0
  spaced_short : outcome (spaced_by 2 3 10 plain) triangle 12 ≡ sent_back faults.OutputTooShort 13
  -- the greatest pitches and margin
  widest :
      outcome (spaced_by 64 64 255 plain) triangle 13
      ≡ written
      (0x4023e27e ∷ 0x500ff0ff ∷ 0x500ff13f ∷ 0x500ff17f ∷ 0x60000000 ∷ 0x60001000 ∷ 0x60002002 ∷ 0x7013f0ff ∷ 0x7013f17f ∷ 0x80000001 ∷ 0x80001001 ∷ 0x80002004 ∷ 0xa0000006 ∷ [])
      0
  -- 'With pitches 1 and margin 0 .. the sheet is the one known so far.'
  on_grid_lem : outcome (spaced_by 1 1 0 plain) triangle 13 ≡ written thirteen 0
  d_spaced : outcome (spaced_by 3 2 1 plain) station_d 40 ≡ sent_back faults.OutputTooShort 41
  -- 13: 'place 0 for column pitch, 1 for row pitch, 2 for margin, first fault given', 'tested after 12 and before the list'
  refusal_13 : outcome (spaced_by 0 0 0 plain) triangle room ≡ sent_back faults.WrongSpacing 0
  refusal_13_row : outcome (spaced_by 1 65 256 plain) triangle room ≡ sent_back faults.WrongSpacing 1
  refusal_13_margin : outcome (spaced_by 64 64 256 plain) triangle room ≡ sent_back faults.WrongSpacing 2
  refusal_13_column : outcome (spaced_by 65 1 0 plain) triangle room ≡ sent_back faults.WrongSpacing 0
  refusal_13_first : outcome (spaced_by 1 0 0 plain) [] 0 ≡ sent_back faults.WrongSpacing 1
  refusal_13_last : outcome (spaced_by 0 0 0 (quoted 10001)) [] 0 ≡ sent_back faults.DiscountTooHigh 10001
  spacing_passes : outcome (spaced_by 64 64 255 plain) [] 0 ≡ sent_back faults.TooFewWords 0
  -- 14: 'a coordinate or head field above 4,095 .., its place the largest such number', before 11: the ring of 256 parts is 255 high, and
  -- 16 is the largest row pitch that fits
  refusal_14 : (room : ℕ) → outcome (spaced_by 1 64 0 plain) (ring 256) room ≡ sent_back faults.NumberTooLarge 16320
  refusal_14_least : (room : ℕ) → outcome (spaced_by 1 17 0 plain) (ring 256) room ≡ sent_back faults.NumberTooLarge 4335
  ring_fits : outcome (spaced_by 1 16 0 plain) (ring 256) 772 ≡ written (sheet_of (spaced_by 1 16 0 plain) (ring 256)) (crossings (drawing_of_list (ring 256)))
  ring_short : outcome (spaced_by 1 16 0 plain) (ring 256) 771 ≡ sent_back faults.OutputTooShort 772
  -- 2026-11: the ring of 512 parts is 511 high, and 8 is the largest row pitch that fits
  refusal_14_512 : (room : ℕ) → outcome (spaced_by 1 9 0 plain) (ring 512) room ≡ sent_back faults.NumberTooLarge 4599
  ring_512_fits : outcome (spaced_by 1 8 0 plain) (ring 512) 1540 ≡ written (sheet_of (spaced_by 1 8 0 plain) (ring 512)) (crossings (drawing_of_list (ring 512)))
  ring_512_short : outcome (spaced_by 1 8 0 plain) (ring 512) 1539 ≡ sent_back faults.OutputTooShort 1540
  -- 2026-14: a chain of 512 parts is 0 wide and 511 high
  refusal_14_chain : (room : ℕ) → outcome (spaced_by 1 9 0 plain) (chain 512) room ≡ sent_back faults.NumberTooLarge 4599
  chain_512_fits : outcome (spaced_by 1 8 0 plain) (chain 512) 1536 ≡ written (sheet_of (spaced_by 1 8 0 plain) (chain 512)) (crossings (drawing_of_list (chain 512)))
  chain_512_short : outcome (spaced_by 1 8 0 plain) (chain 512) 1535 ≡ sent_back faults.OutputTooShort 1536

pub table : Table
unfolding hookup_computing
table = record {
  refusal_1 = refl;
  refusal_2 = refl;
  refusal_3 = refl;
  refusal_4 = refl;
  refusal_5 = refl;
  refusal_6 = refl;
  repeated = refl;
  refusal_8 = refl;
  refusal_9 = refl;
  chain_drawn = refl;
  refusal_10 = refl;
  refusal_11 = refl;
  parts_512 = refl;
  parts_513 = refl;
  parts_256 = refl;
  parts_257 = refl;
  four_cables = refl;
  triangle_13 = refl;
  b_order = refl;
  b_line_2 = refl;
  b_line_3 = refl;
  c_order = refl;
  c_left = refl;
  d_width = refl;
  d_height = refl;
  d_corners = refl;
  d_words = refl;
  d_lengths = refl;
  d_total = refl;
  a_crossings = refl;
  b_crossings = refl;
  c_crossings = refl;
  d_crossings = refl;
  d_shared = refl;
  d_parts = refl;
  d_bends = refl;
  d_line_0 = refl;
  d_line_9 = refl;
  b_drawn = refl;
  b_short = refl;
  c_drawn = refl;
  c_short = refl;
  d_drawn = refl;
  d_short = refl;
  pair_triangle_lem = refl;
  pair_short = refl;
  pairs_drawn = refl;
  pairs_chain = refl;
  below_drawn = refl;
  below_bends = refl;
  above_drawn = refl;
  above_bends = refl;
  chain_source_inside = refl;
  chain_analyser_inside = refl;
  chain_source_between = refl;
  pendant = refl;
  ladder_drawn = refl;
  chain_short = refl;
  chain_quoted = refl;
  chain_spaced = refl;
  a_lengths = refl;
  a_taken = refl;
  price_2048 = refl;
  quoted_0 = refl;
  quoted_1250 = refl;
  quoted_5 = refl;
  quoted_10000 = refl;
  quoted_short = refl;
  refusal_12 = refl;
  refusal_12_first = refl;
  discount_10000 = refl;
  d_quoted = refl;
  spaced_triangle = refl;
  spaced_quoted = refl;
  spaced_short = refl;
  widest = refl;
  on_grid_lem = refl;
  d_spaced = refl;
  refusal_13 = refl;
  refusal_13_row = refl;
  refusal_13_margin = refl;
  refusal_13_column = refl;
  refusal_13_first = refl;
  refusal_13_last = refl;
  spacing_passes = refl;
  refusal_14 = ring_64;
  refusal_14_least = ring_17;
  ring_fits = ring_16;
  ring_short = ring_16_short;
  refusal_14_512 = ring_9;
  ring_512_fits = ring_8;
  ring_512_short = ring_8_short;
  refusal_14_chain = chain_9;
  chain_512_fits = chain_8;
  chain_512_short = chain_8_short;
}
