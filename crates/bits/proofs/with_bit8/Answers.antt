use native.Mathlib.Omega.{arith}
use Rattle.bits.proofs.SmallSets as laws
use Rattle.bits.proofs.with_bit8.Goals as goal

pub overflow_cast-result : goal.overflow_cast-result
overflow_cast-result c = record { fits = omega (arith, c.with_bit.ensures, laws.with_lt 8 c.args.w c.args.i c.requires c.ranges.w.fits) }
