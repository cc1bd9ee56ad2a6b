-- The mark is no NaN's pattern. Assumes nothing.
use lib.Ieee.{nan_bits}
use Rattle.level_cases.proofs.Call.make.Goals as goal

pub float_from_bits-vec : goal.float_from_bits-vec
unfolding nan_bits
float_from_bits-vec g c = tt
