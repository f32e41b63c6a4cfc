use Rattle.std.proofs.Common.{rules, refl}
use borrow.Author.Tests.{tests}
use lib.ListN.{get_or}
use Rattle.lists.proofs.RangeLaws.{all_ranged}
use Rattle.image.specs.Layout.{no_content}
use Rattle.range.specs.Parts.{flush_in, bad_flush}
use Rattle.range.proofs.flushes.threads_flushed.Goals as goal

pub returns : goal.returns
unfolding bad_flush
returns c =
    let a = c.args in
    all_ranged (λ k. flush_in a.top a.t (get_or a.flushed k no_content) (get_or a.late k 0)) _ _ _ _ _ (bad_flush a.top a.t a.flushed a.late) c.all.ensures.ran refl (λ x b q k. search (rules, tests)) (λ k. refl)
