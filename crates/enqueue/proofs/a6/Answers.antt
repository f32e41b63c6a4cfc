use borrow.Author.Tests.{eq-eqb, ne_eqb}
use Rattle.enqueue.proofs.a6.Goals as goal

pub returns-then-x : goal.returns-then-x
returns-then-x c = rw (c.going.ensures, eq-eqb _ _ c.if-x.true)

pub returns : goal.returns
returns c = rw (c.going-2.ensures, ne_eqb _ _ c.if-x.false)
