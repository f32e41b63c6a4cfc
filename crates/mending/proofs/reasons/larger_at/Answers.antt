use borrow.Author.Tests.{lt-ltb, le-ltb}
use Rattle.mending.specs.Mended.{larger_at}
use Rattle.mending.proofs.reasons.larger_at.Goals as goal

pub returns-then-x-y : goal.returns-then-x-y
unfolding larger_at
returns-then-x-y c = rw (← c.index-x.ensures, ← c.index-y.ensures, lt-ltb _ _ c.if-x-y.true)

pub returns : goal.returns
unfolding larger_at
returns c = rw (← c.index-x.ensures, ← c.index-y.ensures, le-ltb _ _ c.if-x-y.false)
