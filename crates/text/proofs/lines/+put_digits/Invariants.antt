-- The measure is the number of digits that are left. Assumes nothing.
use Rattle.text.proofs.lines.+put_digits.Given as goal

abbrev pub decreases-put_digits : goal.decreases-put_digits
decreases-put_digits l = l.k
