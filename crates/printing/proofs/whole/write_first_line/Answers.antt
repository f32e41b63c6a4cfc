use native.Mathlib.Omega.{arith}
use Rattle.printing.proofs.Short as short
use Rattle.printing.proofs.whole.write_first_line.Goals as goal

pub put_first_line-requires : goal.put_first_line-requires
put_first_line-requires c = omega (arith, short.first_short c.args.t c.args.n c.args.events c.args.endings (omega arith) (omega arith) (omega arith) (omega arith))

pub returns : goal.returns
returns c = let e = c.put_first_line.ensures in record { place = (e.0, omega (arith, e.0, short.first_short c.args.t c.args.n c.args.events c.args.endings (omega arith) (omega arith) (omega arith) (omega arith))); bytes = e.1 }
