use mathlib.Core.Path.{ap, ap₂, ◌∙◌}
use mathlib.Core.List.{List, ◌++◌}
use native.Mathlib.Omega.{arith}
use lib.ListN.{length, drop}
use Rattle.std.proofs.lemmas.List.{length-take}
use Rattle.lists.proofs.TabLaws.{front_copy}
use Rattle.image.specs.declared.Content.{Content}
use Rattle.image.specs.Layout.{no_content, no_contents}
use Rattle.machine.specs.Laid.{start_kept}
use Rattle.machine.proofs.start.kept_of.Goals as goal

pub returns : goal.returns
unfolding start_kept
returns c =
    let g = c.args.g.now in
    let k = c.no_contents-kept.result in
    let e = c.copy_from_slice.ensures in
    ap₂ (λ (a b : List Content). a ++ drop g.n b) e.after c.no_contents-kept.ensures
    ∙ front_copy g.nodes no_contents no_content g.n (omega (arith, length-take g.n g.nodes, length-take g.n k, ap length e.after, e.len))
