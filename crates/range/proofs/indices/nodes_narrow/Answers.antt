use Rattle.std.proofs.Common.{rules, refl, leb}
use borrow.Author.Tests.{tests}
use Rattle.lists.specs.Find.{both}
use Rattle.lists.proofs.RangeLaws.{all_ranged}
use Rattle.machine.specs.Record.{node, kept}
use Rattle.machine.specs.Range.{index_fits}
use Rattle.range.specs.Parts.{wide_node}
use Rattle.range.proofs.indices.nodes_narrow.Goals as goal

pub returns : goal.returns
unfolding wide_node index_fits
returns c =
    let m = c.args.m.now in
    let top = c.top_of-top.result in
    all_ranged (λ i. both (leb (node m i).index top) (leb (kept m i).index top)) _ _ _ _ _ (wide_node m) c.all.ensures.ran refl (λ x b q k. search (rules, tests)) (λ k. rw c.top_of-top.ensures)
