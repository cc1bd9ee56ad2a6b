-- Request 2026-13: what the drawings of one station have in common, in whatever sequence its cables are listed. Assumes nothing.
use Rattle.std.specs.Prelude.{◌≡◌, Bool}
use Rattle.lists.specs.Select.{count}
use Rattle.drawing.specs.Drawing.{Route, Drawing, crossings}

-- the same width and height, every part on the same spot, the same routes, each as often, and equally many crossings; the lines of the
-- cables may differ, and with them the sequence of the routes
pub record SameDrawing (d e : Drawing) : Type 0 where
  pub width : d.width ≡ e.width
  pub height : d.height ≡ e.height
  pub parts : d.parts ≡ e.parts
  pub routes : (p : Route → Bool) → count p d.routes ≡ count p e.routes
  pub crossings : crossings d ≡ crossings e
