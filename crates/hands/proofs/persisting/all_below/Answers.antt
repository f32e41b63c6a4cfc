use native.Mathlib.Omega.{arith}
use lib.Pow.{pow_mono}
use Rattle.lists.proofs.WordLaws as words
use Rattle.hands.proofs.FlushLaws as laws
use Rattle.hands.proofs.persisting.all_below.Goals as goal

pub overflow_sub-w : goal.overflow_sub-w
overflow_sub-w c = rw (words.one_shifted 16 c.args.t (omega arith)) (omega (arith, laws.all_ones c.args.t))

pub overflow_cast-result : goal.overflow_cast-result
overflow_cast-result c = rw (words.one_shifted 16 c.args.t (omega arith)) (record { fits = omega (arith, pow_mono {i = c.args.t} {j = 8} (omega arith)) })

pub returns : goal.returns
returns c = rw (words.one_shifted 16 c.args.t (omega arith)) (omega (arith, laws.all_ones c.args.t))
