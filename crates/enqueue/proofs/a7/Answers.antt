use native.Mathlib.Omega.{arith}
use borrow.Author.Tests.{le-leb, lt-leb}
use Rattle.image.proofs.FormLaws.{top_small}
use Rattle.enqueue.proofs.a7.Goals as goal

pub returns-then-top-v : goal.returns-then-top-v
returns-then-top-v c = rw (c.quiet.ensures, ← c.top_of-top.ensures, le-leb _ _ c.if-top-v.true, c.leave-rest.ensures, c.with_bit-f.ensures)

pub overflow_add-r : goal.overflow_add-r
overflow_add-r c = omega (arith, c.top_of-top.ensures, c.if-top-v.false, top_small c.args.m.form)

pub returns : goal.returns
returns c = rw (c.touching.ensures, c.going.ensures, ← c.top_of-top.ensures, lt-leb _ _ c.if-top-v.false)
