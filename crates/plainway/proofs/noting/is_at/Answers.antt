use native.Mathlib.Omega.{arith}
use Rattle.plainway.proofs.ByteLaws as laws
use Rattle.plainway.proofs.noting.is_at.Goals as goal

pub loop-i-init : goal.loop-i-init
loop-i-init c = laws.differs_none _ _ _

pub returns-then-b-at : goal.returns-then-b-at
returns-then-b-at c = laws.differs_here c.args.b.now c.args.at c.args.x.now c.args.n c.loop-i.i (omega arith) c.if-b-at.true

pub loop-i-preserved : goal.loop-i-preserved
loop-i-preserved c = laws.differs_more c.args.b.now c.args.at c.args.x.now c.loop-i.i c.loop-i.invariant c.if-b-at.false

pub returns : goal.returns
returns c = laws.same_end c.args.b.now c.args.at c.args.x.now c.args.n c.loop-i.i (omega arith) c.loop-i.invariant
