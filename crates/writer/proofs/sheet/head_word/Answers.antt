-- The two numbers of the head, as words have them. Assumes nothing.
use mathlib.Core.Path.{sym}
use Rattle.writer.proofs.Sections.{head_as}
use Rattle.writer.proofs.sheet.head_word.Goals as goal

pub returns : goal.returns
returns c = head_as _ (sym c.head_of-head.ensures.width) (sym c.head_of-head.ensures.height) c.sheet_head.ensures
