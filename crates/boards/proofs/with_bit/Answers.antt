-- `boards::with_bit` meets its contract. Assumes nothing.
use native.Mathlib.Omega.{arith}
use Rattle.sweep.proofs.Bits.{bit_fits}
use Rattle.boards.proofs.Steps.{bit_shifted}
use Rattle.boards.proofs.with_bit.Goals as goal

pub overflow_add-result : goal.overflow_add-result
overflow_add-result c = omega (arith, bit_shifted _ c.requires.bit_bound, bit_fits _ _ c.requires.bit_unset c.requires.bit_bound (omega arith))

pub returns : goal.returns
returns c = rw (bit_shifted _ c.requires.bit_bound)
