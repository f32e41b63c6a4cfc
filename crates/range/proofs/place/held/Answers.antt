use Rattle.std.proofs.Common.{rules}
use borrow.Author.Tests.{tests}
use Rattle.lists.proofs.RangeLaws.{counted_ranged}
use Rattle.machine.specs.Place.{is_held}
use Rattle.range.proofs.place.held.Goals as goal

pub returns : goal.returns
returns c =
    counted_ranged (is_held c.args.m.now) _ _ _ _ c.count.ensures.ran c.filter.ensures.source c.filter.ensures.closure (λ x b q k. search (rules, tests))
