use native.Mathlib.Omega.{arith}
use mathlib.Core.Path.{◌∙◌}
use Rattle.printing.proofs.Decimal as laws
use Prim.Native.Nat.{◌≤◌}
use Rattle.printing.proofs.+put_decimal.Goals as goal

pub put_short-requires : goal.put_short-requires
put_short-requires t c = (omega arith, omega arith)

pub returns-then-x-lt10000 : goal.returns-then-x-lt10000
returns-then-x-lt10000 t c = c.put_short.ensures

pub put_short-p-requires : goal.put_short-p-requires
put_short-p-requires t c =
    let n : 10000 ≤ c.args.x = omega arith in
    (omega arith, omega (arith, laws.length_four_more c.args.x n))

pub put_four-requires : goal.put_four-requires
put_four-requires t c =
    let n : 10000 ≤ c.args.x = omega arith in
    (omega arith, omega (arith, laws.length_four_more c.args.x n, c.put_short-p.ensures.0, c.put_short-p.auto.b))

pub overflow_add-result : goal.overflow_add-result
overflow_add-result t c =
    let n : 10000 ≤ c.args.x = omega arith in
    omega (arith, laws.length_four_more c.args.x n, c.put_short-p.ensures.0)

pub returns-then-x-lt100000000 : goal.returns-then-x-lt100000000
returns-then-x-lt100000000 t c =
    let n : 10000 ≤ c.args.x = omega arith in
    let e = c.put_short-p.ensures in
    (omega (arith, laws.length_four_more c.args.x n, e.0), c.put_four.ensures ∙ rw (e.0, e.1) (laws.write_four c.args.b.now c.args.at c.args.x n))

pub put_short-p-requires-then-x-lt1000000000000 : goal.put_short-p-requires-then-x-lt1000000000000
put_short-p-requires-then-x-lt1000000000000 t c =
    let n : 100000000 ≤ c.args.x = omega arith in
    (omega arith, omega (arith, laws.length_eight_more c.args.x n))

pub put_eight-requires : goal.put_eight-requires
put_eight-requires t c =
    let n : 100000000 ≤ c.args.x = omega arith in
    (omega arith, omega (arith, laws.length_eight_more c.args.x n, c.put_short-p-then-x-lt1000000000000.ensures.0, c.put_short-p-then-x-lt1000000000000.auto.b))

pub overflow_add-result-then-x-lt1000000000000 : goal.overflow_add-result-then-x-lt1000000000000
overflow_add-result-then-x-lt1000000000000 t c =
    let n : 100000000 ≤ c.args.x = omega arith in
    omega (arith, laws.length_eight_more c.args.x n, c.put_short-p-then-x-lt1000000000000.ensures.0)

pub returns-then-x-lt1000000000000 : goal.returns-then-x-lt1000000000000
returns-then-x-lt1000000000000 t c =
    let n : 100000000 ≤ c.args.x = omega arith in
    let e = c.put_short-p-then-x-lt1000000000000.ensures in
    (omega (arith, laws.length_eight_more c.args.x n, e.0), c.put_eight.ensures ∙ rw (e.0, e.1) (laws.write_eight c.args.b.now c.args.at c.args.x n))

pub put_decimal-p-requires : goal.put_decimal-p-requires
put_decimal-p-requires t c =
    let n : 100000000 ≤ c.args.x = omega arith in
    (omega (arith, c.decreases), omega (arith, laws.length_eight_more c.args.x n))

pub put_eight-requires-2 : goal.put_eight-requires-2
put_eight-requires-2 t c =
    let n : 100000000 ≤ c.args.x = omega arith in
    (omega arith, omega (arith, laws.length_eight_more c.args.x n, c.put_decimal-p.ensures.0, c.put_decimal-p.auto.b))

pub overflow_add-result-2 : goal.overflow_add-result-2
overflow_add-result-2 t c =
    let n : 100000000 ≤ c.args.x = omega arith in
    omega (arith, laws.length_eight_more c.args.x n, c.put_decimal-p.ensures.0)

pub returns : goal.returns
returns t c =
    let n : 100000000 ≤ c.args.x = omega arith in
    let e = c.put_decimal-p.ensures in
    (omega (arith, laws.length_eight_more c.args.x n, e.0), c.put_eight-2.ensures ∙ rw (e.0, e.1) (laws.write_eight c.args.b.now c.args.at c.args.x n))
