-- The rows that a line reaches. Assumes nothing.
use Rattle.std.specs.Prelude.{ℕ, ◌≡◌, Bool, false, ◌&&◌, List, [], leb}
use Rattle.sweep.specs.Visits.{Visit}
use Rattle.sweeping.specs.declared.spans.Span.{Span}

-- row y is in the span of rows
abbrev pub reaches_row : Span → ℕ → Bool
reaches_row span y = leb span.low y && leb y span.high

-- in the rows outside the span there are no visits
abbrev pub NoneOutside : Span → (ℕ → List Visit) → Type 0
NoneOutside span visits = (y : ℕ) → reaches_row span y ≡ false → visits y ≡ []

-- a span of row 0
abbrev pub no_span : Span
no_span = record { low = 0; high = 0 }
