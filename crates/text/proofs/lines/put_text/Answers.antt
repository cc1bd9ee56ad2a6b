use Rattle.text.proofs.LineLaws.{stored_part}
use Rattle.text.proofs.lines.put_text.Goals as goal

pub returns : goal.returns
returns c = stored_part _ _ _ c.requires c.copy_from_slice.ensures.after
