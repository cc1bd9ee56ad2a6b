-- The program's room is ample: more of it changes nothing that is printed, and its longest file is longer than every list that passes.
-- Assumes nothing.
use Prim.Native.Nat.{ℕ, ◌+◌, ◌*◌, ◌/◌, ◌≤◌}
use native.Mathlib.Omega.{arith}
use Rattle.std.specs.Prelude.{Ok}
use mathlib.Core.Path.{◌≡◌, refl}
use mathlib.Core.List.{List}
use lib.ListN.{length}
use Rattle.words.specs.Limits.{most_cables}
use Rattle.checks.specs.Checks.{Clear}
use Rattle.station.specs.Station.{station_of}
use Rattle.station.specs.Checks.{list_checks}
use Rattle.station.proofs.Cables.{cables_count}
use Rattle.station.proofs.Passed.{well_formed, wired, cables_most}
use Rattle.text.specs.Bytes.{words_in}
use Rattle.hookup.specs.Options.{plain}
use Rattle.hookup.proofs.Ample.{room_ample}
use Rattle.printing.specs.Printed.{most_bytes, room, loaded, printed}
use Rattle.printing.proofs.FileLaws.{length_words_in, loaded_count}

-- what is printed is what ample room gives
pub printed_ample : (bytes : List ℕ) (words : ℕ) → room ≤ words → printed bytes words ≡ printed bytes room
unfolding printed
printed_ample bytes words h = rw (room_ample plain _ room words (omega arith) h) refl

-- a list that passes checks 1 to 8 has its head, its ends and at most 1,024 cables (2026-11)
pub words_most : (list : List ℕ) → Clear list_checks list → length list ≤ most_cables + 2
words_most list C = omega (arith, (well_formed list C).words, cables_count list, cables_most (station_of list) (wired list C))

-- and so it fits a file
pub list_fits : (list : List ℕ) → Clear list_checks list → 4 * length list ≤ most_bytes
list_fits list C = omega (arith, words_most list C)

-- the longest list that is read, of 16,382 cables, does not pass
pub longest_refused : (bytes : List ℕ) → loaded bytes ≡ Ok (most_bytes / 4) → Clear list_checks (words_in bytes) → ⊥
longest_refused bytes e C = omega (arith, (loaded_count bytes e).0, length_words_in bytes, words_most (words_in bytes) C)
