use Rattle.machine.specs.Retire.{released}
use mathlib.Core.Path.{◌≡◌, refl}
use native.Mathlib.Omega.{arith}
use Rattle.hands.proofs.HandLaws as laws
use Rattle.hands.proofs.leaving.leave.Goals as goal

pub loop-i-init : goal.loop-i-init
unfolding released
loop-i-init c = refl

pub loop-i-preserved : goal.loop-i-preserved
loop-i-preserved c = laws.released_next c.args.m c.loop-i.r c.args.k c.loop-i.i c.loop-i.invariant c.without_bit8-rest.result c.free_after-f.result c.without_bit8-rest.ensures c.free_after-f.ensures

pub returns : goal.returns
returns c = let e : c.loop-i.i ≡ c.args.m.n = omega arith in rw (c.idle.ensures, c.loop-i.invariant, e)
