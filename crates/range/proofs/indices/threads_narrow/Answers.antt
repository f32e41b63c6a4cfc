use Rattle.std.proofs.Common.{rules, refl, leb}
use borrow.Author.Tests.{tests}
use Rattle.lists.proofs.RangeLaws.{all_ranged}
use Rattle.machine.specs.Record.{thread}
use Rattle.range.specs.Parts.{wide_thread}
use Rattle.range.proofs.indices.threads_narrow.Goals as goal

pub returns : goal.returns
unfolding wide_thread
returns c =
    let m = c.args.m.now in
    all_ranged (λ k. leb (thread m k).index c.top_of-top.result) _ _ _ _ _ (wide_thread m) c.all.ensures.ran refl (λ x b q k. search (rules, tests)) (λ k. rw c.top_of-top.ensures)
