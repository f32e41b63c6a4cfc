use Rattle.std.proofs.Common.{rules, refl}
use borrow.Author.Tests.{tests}
use Rattle.lists.proofs.RangeLaws.{all_ranged}
use Rattle.machine.specs.Range.{thread_fits}
use Rattle.range.specs.Parts.{bad_thread}
use Rattle.range.proofs.threads_fit.Goals as goal

pub returns : goal.returns
unfolding bad_thread
returns c = all_ranged (thread_fits c.args.m.now) _ _ _ _ _ (bad_thread c.args.m.now) c.all.ensures.ran refl (λ x b q k. search (rules, tests)) (λ k. refl)
