use Rattle.std.proofs.Common.{rules, refl}
use borrow.Author.Tests.{tests}
use lib.Dec.{eqb}
use Rattle.lists.proofs.RangeLaws.{any_ranged}
use Rattle.machine.specs.Record.{thread}
use Rattle.machine.specs.Place.{is_held}
use Rattle.range.proofs.place.is_held.Goals as goal

pub returns : goal.returns
unfolding is_held
returns c = any_ranged (λ k. eqb (thread c.args.m.now k).held c.args.i) _ _ _ _ _ c.any.ensures.ran refl (λ x b q k. search (rules, tests))
