-- How the values that the writer is handed read in the definitions, and what it asks of them. Assumes nothing.
use Rattle.std.specs.Prelude.{◌≤◌, ◌≡◌, None}
use Rattle.words.specs.Limits.{most_field}
use Rattle.ranking.specs.declared.Ranking.{Ranking}
use Rattle.ranking.specs.Ranking.{names_in}
use Rattle.drawing.specs.declared.spacing.Spacing.{Spacing}
use Rattle.drawing.specs.Drawing.{Drawing, renumbered}
use Rattle.drawing.specs.Spacing.{spaced, check13}
use Rattle.placement.specs.declared.Layout.{Layout}
use Rattle.placement.specs.Arrays.{layout_in}

-- the same drawing, with each part by its own number
abbrev pub numbered_in : Ranking → Layout → Drawing
numbered_in r l = renumbered (names_in l.graph.parts r) (layout_in l)

-- a drawing that can be written in a spacing
pub record Fits (s : Spacing) (d : Drawing) : Type 0 where
  pub spacing : check13 s ≡ None
  pub width : (spaced s d).width ≤ most_field
  pub height : (spaced s d).height ≤ most_field
