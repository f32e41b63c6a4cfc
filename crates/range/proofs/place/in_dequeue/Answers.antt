use Rattle.std.proofs.Common.{rules, refl}
use borrow.Author.Tests.{tests}
use lib.Dec.{eqb}
use Rattle.lists.specs.Find.{both}
use Rattle.lists.proofs.RangeLaws.{any_ranged}
use Rattle.machine.specs.Record.{thread}
use Rattle.machine.specs.Stage.{stage, dequeue_owns}
use Rattle.machine.specs.Place.{in_dequeue}
use Rattle.range.proofs.place.in_dequeue.Goals as goal

pub returns : goal.returns
unfolding in_dequeue
returns c =
    let m = c.args.m.now in
    any_ranged (λ k. both (dequeue_owns (stage m k)) (eqb (thread m k).head c.args.i)) _ _ _ _ _ c.any.ensures.ran refl (λ x b q k. search (rules, tests))
