use borrow.Author.Tests.{le-leb, lt-leb}
use Rattle.steps.proofs.is_of_enqueue.Goals as goal

pub returns-then-s-le-A12 : goal.returns-then-s-le-A12
returns-then-s-le-A12 c = rw (le-leb _ _ c.if-s-le-A12.true)

pub returns : goal.returns
returns c = rw (lt-leb _ _ c.if-s-le-A12.false)
