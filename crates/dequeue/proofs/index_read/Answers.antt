use borrow.Author.Tests.{eq-eqb, ne_eqb}
use Rattle.image.specs.Form.{per_desk}
use Rattle.dequeue.proofs.index_read.Goals as goal

pub returns-then-form-eq4 : goal.returns-then-form-eq4
unfolding per_desk
returns-then-form-eq4 c = rw (eq-eqb _ _ c.if-form-eq4.true)

pub returns-else-form-eq4 : goal.returns-else-form-eq4
unfolding per_desk
returns-else-form-eq4 c = rw (ne_eqb _ _ c.if-form-eq4.false)
