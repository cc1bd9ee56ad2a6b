-- The head of a sheet as the code has it, and check 14 by it. Assumes nothing.
use Rattle.std.specs.Prelude.{max, ◌≡◌, cond, Option, Some, None, ℕ}
use Rattle.drawing.specs.Drawing.{Drawing}
use Rattle.drawing.specs.Spacing.{too_large}
use Rattle.measuring.specs.declared.spacing.Head.{Head}

-- the two numbers of a drawing's head
pub record IsHead (d : Drawing) (head : Head) : Type 0 where
  pub width : head.width ≡ d.width
  pub height : head.height ≡ d.height

-- check 14 by the head alone: no coordinate exceeds it (`head_decides` in drawing/proofs/Fields.antt)
unfoldable pub head_check : Drawing → Option ℕ
head_check d = cond (too_large (max d.width d.height)) (Some (max d.width d.height)) None
