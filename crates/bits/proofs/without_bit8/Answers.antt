use native.Mathlib.Omega.{arith}
use Rattle.bits.proofs.SmallSets as laws
use Rattle.bits.proofs.without_bit8.Goals as goal

pub overflow_cast-result : goal.overflow_cast-result
overflow_cast-result c = record { fits = omega (arith, c.without_bit.ensures, laws.without_le c.args.w c.args.i, c.ranges.w.fits) }
