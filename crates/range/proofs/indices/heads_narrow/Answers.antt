use Rattle.std.proofs.Common.{rules, leb}
use borrow.Author.Tests.{tests}
use Rattle.lists.specs.Find.{both}
use Rattle.lists.proofs.RangeLaws.{all_ranged}
use Rattle.machine.specs.Record.{head_at, kept_head}
use Rattle.machine.specs.Range.{head_fits}
use Rattle.range.specs.Parts.{wide_head}
use Rattle.range.proofs.indices.heads_narrow.Goals as goal

pub returns : goal.returns
unfolding wide_head head_fits
returns c =
    let m = c.args.m.now in
    let top = c.top_of-top.result in
    all_ranged (λ k. both (leb (head_at m k) top) (leb (kept_head m k) top)) _ _ _ _ _ (wide_head m) c.all.ensures.ran (rw (c.head_lines-lines.ensures, c.shape.ensures)) (λ x b q k. search (rules, tests)) (λ k. rw c.top_of-top.ensures)
