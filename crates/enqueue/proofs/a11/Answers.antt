use borrow.Author.Tests.{eq-eqb, ne_eqb}
use Rattle.enqueue.proofs.a11.Goals as goal

pub returns-then-r-th : goal.returns-then-r-th
returns-then-r-th c = rw (c.quiet.ensures, c.leave-rest.ensures, eq-eqb _ _ c.if-r-th.true)

pub returns : goal.returns
returns c = rw (c.quiet-2.ensures, c.leave-rest-2.ensures, ne_eqb _ _ c.if-r-th.false)
