use borrow.Author.Tests.{eq-eqb, ne_eqb}
use Rattle.image.specs.Form.{per_desk}
use Rattle.dequeue.proofs.d4.Goals as goal

pub returns-then-not-is_still : goal.returns-then-not-is_still
returns-then-not-is_still c = rw (c.going.ensures, ← c.is_still.ensures, c.if-not-is_still.true)

pub returns-then-r-eq4 : goal.returns-then-r-eq4
unfolding per_desk
returns-then-r-eq4 c = rw (c.going-then-r-eq4.ensures, ← c.is_still.ensures, c.if-not-is_still.false, eq-eqb _ _ c.if-r-eq4.true)

pub returns : goal.returns
unfolding per_desk
returns c = rw (c.touching.ensures, c.going-2.ensures, ← c.is_still.ensures, c.if-not-is_still.false, ne_eqb _ _ c.if-r-eq4.false)
