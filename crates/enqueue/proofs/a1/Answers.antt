use borrow.Author.Tests.{eq-eqb, ne_eqb}
use Rattle.enqueue.proofs.FreeLaws as laws
use native.Mathlib.Omega.{arith}
use mathlib.Core.Path.{◌∙◌}
use Rattle.enqueue.proofs.a1.Goals as goal

pub returns-then-f-eq0 : goal.returns-then-f-eq0
returns-then-f-eq0 c = rw (c.quiet.ensures, c.leave-rest.ensures, eq-eqb _ _ c.if-f-eq0.true)

pub after-i-requires : goal.after-i-requires
after-i-requires c = let p = c.requires in omega (arith, p.1, p.3)

pub without_bit-taken-requires : goal.without_bit-taken-requires
without_bit-taken-requires c = omega (arith, c.after-i.ensures, laws.after_lt c.args.m c.if-f-eq0.false c.requires.1 c.requires.2)

pub overflow_cast-x : goal.overflow_cast-x
overflow_cast-x c = omega (arith, c.after-i.ensures, laws.after_lt c.args.m c.if-f-eq0.false c.requires.1 c.requires.2)

pub returns : goal.returns
returns c =
    let l = c.if-f-eq0.false in
    rw (
      c.moving.ensures,
      ne_eqb _ _ l,
      c.without_bit-taken.ensures,
      c.after-i.ensures ∙ laws.after_free c.args.m l c.requires.1 c.requires.2 c.requires.3,
    )
