use borrow.Author.Tests.{lt-ltb, le-ltb}
use Rattle.image.specs.Refusals.{sound}
use Rattle.image.proofs.nodes.sound.Goals as goal

pub returns-then-i-n : goal.returns-then-i-n
unfolding sound
returns-then-i-n g c = rw (← c.first_unclear-i.ensures, ← c.count-n.ensures, lt-ltb _ _ c.if-i-n.true)

pub returns : goal.returns
unfolding sound
returns g c = rw (← c.first_unclear-i.ensures, ← c.count-n.ensures, le-ltb _ _ c.if-i-n.false) c.startable.ensures
