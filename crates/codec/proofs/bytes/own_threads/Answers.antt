use mathlib.Core.Path.{ap}
use lib.ListN.{get_or-eq_default}
use Rattle.image.specs.declared.Shape.{Shape}
use Rattle.codec.proofs.Shapes as shapes
use native.Mathlib.Omega.{arith}
use Rattle.codec.proofs.bytes.own_threads.Goals as goal

pub returns-then-s-lt7 : goal.returns-then-s-lt7
returns-then-s-lt7 c = shapes.shape_short c.args.s.now (get_or-eq_default c.args.s.now 0 (omega arith))

pub returns : goal.returns
returns c = ap (λ (z : Shape). z.t) c.shape_in-z.ensures
