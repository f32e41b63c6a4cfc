use mathlib.Core.Path.{◌≡◌, refl, ap}
use native.Mathlib.Omega.{arith}
use borrow.Author.Rules.{rules}
use lib.ListN.{length, take}
use Rattle.lists.specs.Tab.{over}
use Rattle.lists.proofs.TabLaws.{length_over}
use Rattle.calls.proofs.Laws as laws
use Rattle.historycalls.proofs.put_order.Goals as goal

pub loop-i-init : goal.loop-i-init
unfolding over
loop-i-init c = refl

pub bounds-b-i : goal.bounds-b-i
bounds-b-i c = omega (arith, ap length c.loop-i.invariant, length_over c.args.b.now 0 (take c.loop-i.i c.args.order))

pub loop-i-preserved : goal.loop-i-preserved
loop-i-preserved c = let n : length c.args.order ≡ 16 = search rules in rw c.loop-i.invariant (laws.order_next c.args.b.now c.args.order c.loop-i.i (omega arith) (omega arith))

pub returns : goal.returns
returns c = let e : c.loop-i.i ≡ c.args.n = omega arith in rw (← e) c.loop-i.invariant
