use native.Mathlib.Omega.{arith}
use Prim.Native.Nat.{◌/◌}
use mathlib.Core.Path.{sym, ap}
use lib.ListN.{length}
use Rattle.printing.proofs.Decimal as laws
use Rattle.sheet.proofs.stretch.width_of.Goals as goal

pub returns-then-k-lt10 : goal.returns-then-k-lt10
returns-then-k-lt10 c = sym (laws.length_one c.args.k (omega arith))

pub returns-then-k-lt100 : goal.returns-then-k-lt100
returns-then-k-lt100 c = sym (ap length (laws.short_two c.args.k (omega arith) (omega arith)))

pub returns-then-k-lt1000 : goal.returns-then-k-lt1000
returns-then-k-lt1000 c = sym (ap length (laws.short_three c.args.k (omega arith) (omega arith)))

pub returns-then-k-lt10000 : goal.returns-then-k-lt10000
returns-then-k-lt10000 c = sym (laws.length_short_four c.args.k (omega arith) (omega arith))

pub returns : goal.returns
returns c =
    let k = c.args.k in
    omega (arith, laws.length_four_more k (omega arith), laws.length_one (k / 10000) (omega arith))
