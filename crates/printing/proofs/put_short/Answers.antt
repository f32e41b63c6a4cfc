use mathlib.Core.Path.{ap, sym, ◌∙◌}
use native.Mathlib.Omega.{arith}
use lib.ListN.{length, length-set}
use Rattle.lists.specs.Tab.{over}
use Rattle.printing.proofs.Decimal as laws
use Rattle.printing.proofs.put_short.Goals as goal

pub bounds-b-at : goal.bounds-b-at
bounds-b-at c = omega (arith, laws.length_one c.args.x c.if-x-lt10.true)

pub returns-then-x-lt10 : goal.returns-then-x-lt10
returns-then-x-lt10 c = (omega (arith, laws.length_one c.args.x c.if-x-lt10.true), laws.write_one c.args.b.now c.args.at c.args.x c.if-x-lt10.true)

pub bounds-b-at-then-x-lt100 : goal.bounds-b-at-then-x-lt100
bounds-b-at-then-x-lt100 c = omega (arith, ap length (laws.short_two c.args.x (omega arith) (omega arith)))

pub bounds-b-at-then-x-lt100-2 : goal.bounds-b-at-then-x-lt100-2
bounds-b-at-then-x-lt100-2 c = simp length-set (omega (arith, ap length (laws.short_two c.args.x (omega arith) (omega arith))))

pub returns-then-x-lt100 : goal.returns-then-x-lt100
returns-then-x-lt100 c = (omega (arith, ap length (laws.short_two c.args.x (omega arith) (omega arith))), laws.write_two c.args.b.now c.args.at c.args.x (omega arith) (omega arith))

pub bounds-b-at-then-x-lt1000 : goal.bounds-b-at-then-x-lt1000
bounds-b-at-then-x-lt1000 c = omega (arith, ap length (laws.short_three c.args.x (omega arith) (omega arith)))

pub bounds-b-at-then-x-lt1000-2 : goal.bounds-b-at-then-x-lt1000-2
bounds-b-at-then-x-lt1000-2 c = simp length-set (omega (arith, ap length (laws.short_three c.args.x (omega arith) (omega arith))))

pub bounds-b-at-then-x-lt1000-3 : goal.bounds-b-at-then-x-lt1000-3
bounds-b-at-then-x-lt1000-3 c = simp length-set (omega (arith, ap length (laws.short_three c.args.x (omega arith) (omega arith))))

pub returns-then-x-lt1000 : goal.returns-then-x-lt1000
returns-then-x-lt1000 c = (omega (arith, ap length (laws.short_three c.args.x (omega arith) (omega arith))), laws.write_three c.args.b.now c.args.at c.args.x (omega arith) (omega arith))

pub put_four-requires : goal.put_four-requires
put_four-requires c = (omega arith, omega (arith, laws.length_short_four c.args.x (omega arith) (omega arith)))

pub returns : goal.returns
returns c = (omega (arith, laws.length_short_four c.args.x (omega arith) (omega arith)), c.put_four.ensures ∙ ap (over c.args.b.now c.args.at) (sym (laws.short_four c.args.x (omega arith) (omega arith))))
