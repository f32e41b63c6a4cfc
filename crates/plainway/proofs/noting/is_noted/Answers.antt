use mathlib.Core.Path.{◌≡◌, sym, ap, ◌∙◌}
use native.Mathlib.Omega.{arith}
use native.Mathlib.Nat.{suc-mul, mul-le-mul_right}
use Rattle.plainway.specs.Noting.{is_noted}
use Rattle.plainway.proofs.ByteLaws as laws
use Rattle.plainway.proofs.noting.is_noted.Goals as goal

pub loop-i-init : goal.loop-i-init
loop-i-init c = laws.noted_none _ _ _

pub overflow_mul-i : goal.overflow_mul-i
overflow_mul-i c = omega (arith, suc-mul c.loop-i.i c.args.n, mul-le-mul_right c.args.n c.loop-i-test.true)

pub is_at-requires : goal.is_at-requires
is_at-requires c = (omega (arith, suc-mul c.loop-i.i c.args.n, mul-le-mul_right c.args.n c.loop-i-test.true), c.requires.1)

pub returns-then-is_at : goal.returns-then-is_at
returns-then-is_at c = laws.noted_here c.args.b.now c.args.x.now c.args.n c.args.c c.loop-i.i c.loop-i-test.true (sym c.is_at.ensures ∙ c.if-is_at.true)

pub loop-i-preserved : goal.loop-i-preserved
loop-i-preserved c = laws.noted_more c.args.b.now c.args.x.now c.args.n c.loop-i.i c.loop-i.invariant (sym c.is_at.ensures ∙ c.if-is_at.false)

pub returns : goal.returns
returns c = sym (ap (λ k. is_noted c.args.b.now k c.args.x.now c.args.n) (let e : c.args.c ≡ c.loop-i.i = omega arith in e) ∙ c.loop-i.invariant)
