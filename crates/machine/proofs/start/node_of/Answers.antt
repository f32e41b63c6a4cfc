use mathlib.Core.Path.{◌∙◌}
use borrow.Author.Tests.{eq-eqb, ne_eqb}
use native.Mathlib.Omega.{arith}
use Rattle.image.proofs.HeadLaws.{head_is}
use Rattle.machine.proofs.QueueLaws as queues
use Rattle.machine.proofs.start.node_of.Goals as goal

pub behind-next-requires : goal.behind-next-requires
behind-next-requires c = omega (arith, queues.queue_count c.args.g.now c.args.q.now c.args.g.now.n c.requires.3)

pub returns-then-i-d : goal.returns-then-i-d
returns-then-i-d c = rw ((rw c.shape.ensures at c.head_of-index.ensures) ∙ head_is c.args.g.now, c.behind-next.ensures, queues.queue_take c.args.g.now c.args.q.now c.args.g.now.n c.requires.3, eq-eqb _ _ c.if-i-d.true)

pub returns-else-i-d : goal.returns-else-i-d
returns-else-i-d c = rw (c.behind-next.ensures, queues.queue_take c.args.g.now c.args.q.now c.args.g.now.n c.requires.3, ne_eqb _ _ c.if-i-d.false)
