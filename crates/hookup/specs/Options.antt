-- What a caller may give beside the list: a customer's discount (request 2026-05) and a spacing (2026-06). Assumes nothing.
use Rattle.std.specs.Prelude.{ℕ, Some, None}
use Rattle.drawing.specs.declared.spacing.Spacing.{Spacing}
use Rattle.drawing.specs.Spacing.{spacing_of, on_grid}
use Rattle.hookup.specs.declared.Options.{Options}

-- 'The sheet program gives none.' 2026-06: 'With pitches 1 and margin 0, which the sheet program uses'
abbrev pub plain : Options
plain = record { discount = None; spacing = on_grid }

-- 'A call given a discount'
abbrev pub quoted : ℕ → Options
quoted discount = record { discount = Some discount; spacing = on_grid }

-- 2026-06: 'The caller gives a column pitch, a row pitch and a margin', beside what else is given
abbrev pub spaced_with : Spacing → Options → Options
spaced_with spacing options = record { discount = options.discount; spacing = spacing }

-- the same by its three numbers
abbrev pub spaced_by : ℕ → ℕ → ℕ → Options → Options
spaced_by column row margin options = spaced_with (spacing_of column row margin) options
