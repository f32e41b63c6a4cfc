use borrow.Author.Tests.{eq-eqb, ne_eqb}
use Rattle.machine.specs.Retire.{retired}
use Rattle.dequeue.proofs.d7.Goals as goal

pub returns-then-th : goal.returns-then-th
returns-then-th c = rw (c.quiet.ensures, c.leave-rest.ensures, eq-eqb _ _ c.if-th.true)

pub retire-r-requires : goal.retire-r-requires
retire-r-requires c = (c.requires.2, c.requires.3 c.if-th.false)

pub leave-rest-requires-2 : goal.leave-rest-requires-2
unfolding retired
leave-rest-requires-2 c = (c.requires.0, rw c.retire-r.ensures c.requires.1)

pub returns : goal.returns
unfolding retired
returns c = rw (c.quiet-2.ensures, c.leave-rest-2.ensures, c.retire-r.ensures, ne_eqb _ _ c.if-th.false)
