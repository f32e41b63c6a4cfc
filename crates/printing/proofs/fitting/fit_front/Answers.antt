use Prim.Native.Nat.{◌-◌}
use mathlib.Core.Path.{sym}
use lib.ListN.{length, take}
use Rattle.printing.proofs.Fittings as laws
use lib.Seq.{length-take-le}
use native.Mathlib.Omega.{arith}
use Rattle.printing.proofs.fitting.fit_front.Goals as goal

pub returns-then-b-at : goal.returns-then-b-at
returns-then-b-at c = record { place = (laws.put_none c.args.b.now c.args.at (length c.args.b.now - c.args.at) (take c.args.n c.args.s.now) (omega (arith, length-take-le c.args.n c.args.s.now (omega arith)))).0; bytes = (laws.put_none c.args.b.now c.args.at (length c.args.b.now - c.args.at) (take c.args.n c.args.s.now) (omega (arith, length-take-le c.args.n c.args.s.now (omega arith)))).1 }

pub slice_bounds-put-end : goal.slice_bounds-put-end
slice_bounds-put-end c = sym (length-take-le c.args.n c.args.s.now (omega arith))

pub put-requires : goal.put-requires
put-requires c = omega (arith, length-take-le c.args.n c.args.s.now (omega arith))

pub returns : goal.returns
returns c = record { place = (laws.put_all c.args.b.now c.args.at (length c.args.b.now - c.args.at) (take c.args.n c.args.s.now) (omega (arith, length-take-le c.args.n c.args.s.now (omega arith))) c.put.ensures).0; bytes = (laws.put_all c.args.b.now c.args.at (length c.args.b.now - c.args.at) (take c.args.n c.args.s.now) (omega (arith, length-take-le c.args.n c.args.s.now (omega arith))) c.put.ensures).1 }
