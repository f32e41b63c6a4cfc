use borrow.Author.Tests.{eq-eqb, ne_eqb}
use Rattle.image.specs.Recovered.{recovered}
use Rattle.image.proofs.nodes.is_recovered_at.Goals as goal

pub returns-then-linked-eq1 : goal.returns-then-linked-eq1
unfolding recovered
returns-then-linked-eq1 g c = rw (← c.requires.1.1, ← c.linked.ensures, eq-eqb _ _ c.if-linked-eq1.true, ← c.index.ensures)

pub returns-else-linked-eq1 : goal.returns-else-linked-eq1
unfolding recovered
returns-else-linked-eq1 g c = rw (← c.linked.ensures, ne_eqb _ _ c.if-linked-eq1.false)
