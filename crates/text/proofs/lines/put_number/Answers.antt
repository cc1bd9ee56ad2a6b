-- 20 digits are enough by the definition. Assumes nothing.
use Rattle.text.specs.Lines.{decimal}
use Rattle.text.proofs.lines.put_number.Goals as goal

pub returns : goal.returns
unfolding decimal
returns c = c.put_digits.ensures
