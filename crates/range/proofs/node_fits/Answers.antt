use Rattle.std.proofs.Common.{rules, arith}
use Rattle.std.proofs.lemmas.Grind.{common_steps}
use Rattle.range.specs.Parts.{node_in}
use Rattle.range.proofs.node_fits.Goals as goal

pub returns-then-p-le1 : goal.returns-then-p-le1
unfolding node_in
returns-then-p-le1 c = grind (arith, common_steps)

pub returns-else-p-le1 : goal.returns-else-p-le1
unfolding node_in
returns-else-p-le1 c = search rules
