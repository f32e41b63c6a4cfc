use Rattle.image.specs.Recovered.{recovered}
use borrow.Author.Tests.{eq-eqb, ne_eqb}
use Rattle.image.proofs.recovered.is_recovered.Goals as goal

pub returns-then-c-eq1 : goal.returns-then-c-eq1
unfolding recovered
returns-then-c-eq1 c = rw (eq-eqb _ _ c.if-c-eq1.true)

pub returns-else-c-eq1 : goal.returns-else-c-eq1
unfolding recovered
returns-else-c-eq1 c = rw (ne_eqb _ _ c.if-c-eq1.false)
