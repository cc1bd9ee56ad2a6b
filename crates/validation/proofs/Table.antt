-- Request 2026-09 on worked sheets. The request names no example: these are ours, worked out by hand. Assumes nothing.
use Rattle.checks.specs.Checks.{passed, refused}
use Rattle.checks.specs.declared.Fault.TheVariants as faults
use Prim.Native.Nat.{ℕ}
use mathlib.Core.Path.{◌≡◌, refl}
use mathlib.Core.List.{List, [], ◌∷◌, ◌++◌}
use Rattle.validation.specs.Outcome.{sheet_verdict}
use Rattle.validation.proofs.Computing.{validation_computing}

-- document 01's triangle; with a second cable between parts 0 and 1
triangle : List ℕ
triangle = 0x10030003 ∷ 0x20000002 ∷ 0x30000001 ∷ 0x30001002 ∷ 0x30000002 ∷ []

doubled : List ℕ
doubled = 0x10030004 ∷ 0x20000002 ∷ 0x30000001 ∷ 0x30001000 ∷ 0x30001002 ∷ 0x30000002 ∷ []

-- the triangle's parts in column 0, one step apart, and two
near : List ℕ
near = 0x40001002 ∷ 0x50000000 ∷ 0x50000001 ∷ 0x50000002 ∷ []

far : List ℕ
far = 0x40002004 ∷ 0x50000000 ∷ 0x50000002 ∷ 0x50000004 ∷ []

record Table : Type 0 where
  -- the triangle's own sheet, with its lengths; without them, and with anything else behind
  own :
      sheet_verdict triangle
      (near ++ (0x60000000 ∷ 0x60001000 ∷ 0x60002002 ∷ 0x70001000 ∷ 0x70001002 ∷ 0x80000001 ∷ 0x80001001 ∷ 0x80002004 ∷ 0xa0000006 ∷ []))
      ≡ passed
  nine : sheet_verdict triangle (near ++ (0x60000000 ∷ 0x60001000 ∷ 0x60002002 ∷ 0x70001000 ∷ 0x70001002 ∷ [])) ≡ passed
  behind : sheet_verdict triangle (near ++ (0x60000000 ∷ 0x60001000 ∷ 0x60002002 ∷ 0x70001000 ∷ 0x70001002 ∷ 0xffffffff ∷ [])) ≡ passed
  -- a word too few, two, and none at all
  eight : sheet_verdict triangle (near ++ (0x60000000 ∷ 0x60001000 ∷ 0x60002002 ∷ 0x70001000 ∷ [])) ≡ refused faults.OutOfLayout 8
  three : sheet_verdict triangle (0x40001002 ∷ 0x50000000 ∷ 0x50000001 ∷ []) ≡ refused faults.OutOfLayout 3
  none : sheet_verdict triangle [] ≡ refused faults.OutOfLayout 0
  -- a head of height 1: the first point above it is part 2
  low : sheet_verdict triangle (0x40001001 ∷ 0x50000000 ∷ 0x50000001 ∷ 0x50000002 ∷ []) ≡ refused faults.OutOfLayout 3
  -- a corner beyond the width by one
  beyond : sheet_verdict triangle (near ++ (0x60000000 ∷ 0x60001000 ∷ 0x60002002 ∷ 0x70002000 ∷ 0x70002002 ∷ [])) ≡ refused faults.OutOfLayout 7
  -- a spare bit of the head, of a part and of a corner; another kind
  head_spare : sheet_verdict triangle (0x41001002 ∷ []) ≡ refused faults.OutOfLayout 0
  part_spare : sheet_verdict triangle (0x40001002 ∷ 0x50000000 ∷ 0x58000001 ∷ 0x50000002 ∷ []) ≡ refused faults.OutOfLayout 2
  corner_spare : sheet_verdict triangle (near ++ (0x60000000 ∷ 0x60001000 ∷ 0x60002002 ∷ 0x70001000 ∷ 0x71001002 ∷ [])) ≡ refused faults.OutOfLayout 8
  kind : sheet_verdict triangle (near ++ (0x60000000 ∷ 0x60001000 ∷ 0x60002002 ∷ 0x50001000 ∷ 0x70001002 ∷ [])) ≡ refused faults.OutOfLayout 7
  -- line 1 at line 0
  line : sheet_verdict triangle (near ++ (0x60001000 ∷ 0x60001000 ∷ 0x60002002 ∷ 0x70001000 ∷ 0x70001002 ∷ [])) ≡ refused faults.OutOfLayout 4
  -- corners from the other end
  back : sheet_verdict triangle (near ++ (0x60000000 ∷ 0x60001000 ∷ 0x60002002 ∷ 0x70001002 ∷ 0x70001000 ∷ [])) ≡ passed
  -- four corners that alternate both ways; read forward, line 0 touches nothing, read backward it runs over itself
  forward :
      sheet_verdict triangle
      (0x40003004 ∷ 0x50000000 ∷ 0x50000003 ∷ 0x50002003 ∷ 0x60000004 ∷ 0x70000001 ∷ 0x70001001 ∷ 0x70001002 ∷ 0x70000002
      ∷ 0x60001000 ∷ 0x60002001 ∷ 0x70002000 ∷ [])
      ≡ passed
  backward :
      sheet_verdict triangle
      (0x40003004 ∷ 0x50000000 ∷ 0x50000003 ∷ 0x50002003 ∷ 0x60000004 ∷ 0x70000002 ∷ 0x70001002 ∷ 0x70001001 ∷ 0x70000001
      ∷ 0x60001000 ∷ 0x60002001 ∷ 0x70002000 ∷ [])
      ≡ passed
  -- a corner of cable 1 on part 0
  corner_on_part :
      sheet_verdict triangle (near ++ (0x60000000 ∷ 0x60001001 ∷ 0x70000000 ∷ 0x60002002 ∷ 0x70001000 ∷ 0x70001002 ∷ [])) ≡ refused faults.BrokenRule 1
  -- cable 2 straight from part 0 to part 2, over cables 0 and 1: it touches part 1, whatever the pairs are
  over_both : sheet_verdict triangle (near ++ (0x60000000 ∷ 0x60001000 ∷ 0x60002000 ∷ [])) ≡ refused faults.BrokenRule 2
  -- cable 2 leaves part 0 over cable 0 and turns away before part 1: no cable is wrong by itself, and of the pair the lower is named
  overlaid :
      sheet_verdict triangle (far ++ (0x60000000 ∷ 0x60001000 ∷ 0x60002003 ∷ 0x70000001 ∷ 0x70001001 ∷ 0x70001004 ∷ [])) ≡ refused faults.BrokenRule 0
  -- the same over cable 1, at the other end
  overlaid_above :
      sheet_verdict triangle (far ++ (0x60000000 ∷ 0x60001000 ∷ 0x60002003 ∷ 0x70001000 ∷ 0x70001003 ∷ 0x70000003 ∷ [])) ≡ refused faults.BrokenRule 1
  -- two cables between parts one step apart share their parts' spots alone; two steps apart the spot between them too
  one_step :
      sheet_verdict doubled
      (0x40001002 ∷ 0x50000000 ∷ 0x50000001 ∷ 0x50000002 ∷ 0x60000000 ∷ 0x60001000 ∷ 0x60002000 ∷ 0x60003002 ∷ 0x70001000 ∷ 0x70001002 ∷ [])
      ≡ passed
  two_steps :
      sheet_verdict doubled
      (0x40001003 ∷ 0x50000000 ∷ 0x50000002 ∷ 0x50000003 ∷ 0x60000000 ∷ 0x60001000 ∷ 0x60002000 ∷ 0x60003002 ∷ 0x70001000 ∷ 0x70001003 ∷ [])
      ≡ refused faults.BrokenRule 0
  -- a wrong word behind a wrong line comes first; and the list before the sheet
  layout_first : sheet_verdict triangle (near ++ (0x60000000 ∷ 0x60001001 ∷ 0x70000000 ∷ 0x60003000 ∷ [])) ≡ refused faults.OutOfLayout 7
  list_first : sheet_verdict (0x10030002 ∷ 0x20000001 ∷ 0x30000001 ∷ 0x30001002 ∷ []) [] ≡ refused faults.SeparatingPart 1

table : Table
unfolding validation_computing triangle doubled near far
table = record {
  own = refl;
  nine = refl;
  behind = refl;
  eight = refl;
  three = refl;
  none = refl;
  low = refl;
  beyond = refl;
  head_spare = refl;
  part_spare = refl;
  corner_spare = refl;
  kind = refl;
  line = refl;
  back = refl;
  forward = refl;
  backward = refl;
  corner_on_part = refl;
  over_both = refl;
  overlaid = refl;
  overlaid_above = refl;
  one_step = refl;
  two_steps = refl;
  layout_first = refl;
  list_first = refl;
}
