-- Document 01 at the top: for what the caller gives, a list and a length of output, the sheet with its counts, or the refusal with its
-- number and place. Assumes nothing.
use Rattle.std.specs.Prelude.{ℕ, List}
use Rattle.checks.specs.Checks.{first_refusal}
use Rattle.checks.specs.Outcome as call
use Rattle.station.specs.Station.{station_of}
use Rattle.drawing.specs.Drawing.{Drawing, crossings}
use Rattle.drawing.specs.Sheet.{quoted_words}
use Rattle.hookup.specs.declared.Options.{Options}
use Rattle.hookup.specs.Checks.{call_checks}
use Rattle.hookup.specs.Drawing.{drawing}

-- 'A successful call returns the words written and the crossings'
abbrev pub Outcome : Type 0
Outcome = call.Outcome ℕ ℕ

-- 11: 'output shorter than the sheet'; 2026-05: the bill is at its end, 'and check 11 measures it'; 2026-06: the grid's drawing, as it is
-- spaced
unfoldable pub sheet_in : Options → Drawing → ℕ → Outcome
sheet_in options d room = call.fitted (quoted_words options.spacing options.discount d) (crossings d) room

unfoldable pub outcome : Options → List ℕ → ℕ → Outcome
outcome options list room = call.if_passed (first_refusal (call_checks options) list) (sheet_in options (drawing (station_of list)) room)
