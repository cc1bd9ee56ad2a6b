use Rattle.lists.proofs.Stores.{stored_as}
use Rattle.text.specs.Lines.{hex_half}
use Rattle.text.proofs.lines.put_hex_half.Goals as goal

pub returns : goal.returns
unfolding hex_half
returns c = stored_as (simp (c.hex_digit.ensures, c.hex_digit-2.ensures, c.hex_digit-3.ensures, c.hex_digit-4.ensures)) c.put_text.ensures
