use Rattle.std.proofs.Common.{rules, refl}
use borrow.Author.Tests.{tests}
use Rattle.lists.proofs.RangeLaws.{all_ranged}
use Rattle.machine.specs.Record.{node, kept}
use Rattle.machine.specs.Range.{node_fits}
use Rattle.range.specs.Parts.{node_in, bad_node}
use Rattle.range.proofs.nodes_fit.Goals as goal

pub returns : goal.returns
unfolding node_in bad_node node_fits
returns c =
    let m = c.args.m.now in
    all_ranged (λ i. node_in m.n m.t (node m i) (kept m i)) _ _ _ _ _ (bad_node m) c.all.ensures.ran refl (λ x b q k. search (rules, tests)) (λ k. refl)
