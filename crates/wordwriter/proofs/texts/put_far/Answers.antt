use Rattle.printing.proofs.Written as laws
use native.Mathlib.Omega.{arith}
use Rattle.lists.specs.Text.{decimal}
use Rattle.printing.proofs.Short as short
use Rattle.wordwriter.proofs.texts.put_far.Goals as goal

pub put_decimal-requires : goal.put_decimal-requires
put_decimal-requires c = omega (arith, c.put-p.ensures.0, c.put-p.auto.b, short.decimal_short 20 c.args.x (omega arith) (omega arith))

pub returns : goal.returns
returns c = let w = c.put-p.ensures in let d = c.put_decimal.ensures in let t = laws.then c.args.b.now c.args.at c.args.word.now (decimal c.args.x) w d in record { put = t; room = omega (arith, w.0, d.0, short.decimal_short 20 c.args.x (omega arith) (omega arith)) }
