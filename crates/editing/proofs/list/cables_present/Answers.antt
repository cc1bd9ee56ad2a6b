-- `editing::list::cables_present` meets its contract. Assumes nothing.
use Rattle.editor.specs.Rows.{present}
use Rattle.editing.proofs.list.cables_present.Goals as goal

pub returns : goal.returns
unfolding present
returns c = c.cables.ensures
