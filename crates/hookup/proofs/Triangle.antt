-- Demand 3, the order of demand 2 and the crossings of 2026-02 hold of the thirteen words for the triangle (document 01's nine, and
-- 2026-01's four), of the seventeen with a discount (2026-05), and of those for print (2026-06): the theorems at one station. Assumes
-- nothing.
use Prim.Native.Nat.{ℕ}
use mathlib.Core.Path.{◌≡◌, refl, ◌∙◌, subst, subst₂}
use mathlib.Core.List.{List, [], ◌∷◌, ◌++◌}
use Rattle.station.specs.Station.{station_of}
use Rattle.checks.specs.Checks.{Clear}
use Rattle.order.proofs.Triangle.{triangle, triangle_passes}
use Rattle.drawing.specs.Drawing.{crossings}
use Rattle.drawing.proofs.Worked.{thirteen}
use Rattle.hookup.specs.Options.{plain, quoted, spaced_by}
use Rattle.hookup.specs.Checks.{call_checks}
use Rattle.hookup.specs.Drawing.{drawing}
use Rattle.hookup.specs.Demand.{Demand3, Ordered, Crossed}
use Rattle.hookup.proofs.OnGrid.{plain_decides}
use Rattle.hookup.proofs.Demand3.{sheet_of, demand3, ordered, crossed}
use Rattle.hookup.proofs.Table.{printed}
use Rattle.hookup.proofs.Computing.{hookup_computing}

-- nothing is given, and the list passes
pub triangle_called : Clear (call_checks plain) triangle
triangle_called = plain_decides triangle ∙ triangle_passes

pub triangle_words : sheet_of plain triangle ≡ thirteen
unfolding hookup_computing
triangle_words = refl

pub triangle_demand3 : Demand3 plain triangle thirteen
triangle_demand3 = subst (λ (w : List ℕ). Demand3 plain triangle w) triangle_words (demand3 plain triangle triangle_called)

pub triangle_ordered : Ordered plain triangle thirteen
triangle_ordered = subst (λ (w : List ℕ). Ordered plain triangle w) triangle_words (ordered plain triangle triangle_called)

triangle_crossings : crossings (drawing (station_of triangle)) ≡ 0
unfolding hookup_computing
triangle_crossings = refl

pub triangle_crossed : Crossed triangle thirteen 0
triangle_crossed = subst₂ (λ (w : List ℕ) (k : ℕ). Crossed triangle w k) triangle_words triangle_crossings (crossed plain triangle triangle_called)

-- with a discount of an eighth
abbrev pub seventeen : List ℕ
seventeen = thirteen ++ 849 ∷ 849 ∷ 910 ∷ 2608 ∷ []

quoted_words_lem : sheet_of (quoted 1250) triangle ≡ seventeen
unfolding hookup_computing
quoted_words_lem = refl

quoted_called : Clear (call_checks (quoted 1250)) triangle
unfolding hookup_computing
quoted_called = refl

pub triangle_quoted : Demand3 (quoted 1250) triangle seventeen
triangle_quoted = subst (λ (w : List ℕ). Demand3 (quoted 1250) triangle w) quoted_words_lem (demand3 (quoted 1250) triangle quoted_called)

-- for print
spaced_words : sheet_of (spaced_by 2 3 10 plain) triangle ≡ printed
unfolding hookup_computing
spaced_words = refl

spaced_called : Clear (call_checks (spaced_by 2 3 10 plain)) triangle
unfolding hookup_computing
spaced_called = refl

pub triangle_spaced : Demand3 (spaced_by 2 3 10 plain) triangle printed
triangle_spaced = subst (λ (w : List ℕ). Demand3 (spaced_by 2 3 10 plain) triangle w) spaced_words (demand3 (spaced_by 2 3 10 plain) triangle spaced_called)

pub triangle_spaced_ordered : Ordered (spaced_by 2 3 10 plain) triangle printed
triangle_spaced_ordered = subst (λ (w : List ℕ). Ordered (spaced_by 2 3 10 plain) triangle w) spaced_words (ordered (spaced_by 2 3 10 plain) triangle spaced_called)
