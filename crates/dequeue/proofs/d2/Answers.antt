use borrow.Author.Tests.{eq-eqb, ne_eqb}
use Rattle.dequeue.proofs.d2.Goals as goal

pub returns-then-x : goal.returns-then-x
returns-then-x c = rw (c.moving.ensures, c.by_form-s.ensures, eq-eqb _ _ c.if-x.true)

pub returns : goal.returns
returns c = rw (c.moving-2.ensures, ne_eqb _ _ c.if-x.false)
