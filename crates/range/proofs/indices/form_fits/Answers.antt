use Rattle.std.proofs.Common.{arith}
use Rattle.std.proofs.lemmas.Grind.{common_steps}
use Rattle.image.proofs.HeadLaws.{lines_few}
use Rattle.range.proofs.Narrow.{form_by}
use Rattle.range.proofs.indices.form_fits.Goals as goal

pub heads_narrow-requires : goal.heads_narrow-requires
heads_narrow-requires c = lines_few _ c.requires.1

pub returns-then-nodes_narrow : goal.returns-then-nodes_narrow
returns-then-nodes_narrow c = rw (form_by c.args.m.now) (grind (arith, common_steps))

pub returns-else-nodes_narrow : goal.returns-else-nodes_narrow
returns-else-nodes_narrow c = rw (form_by c.args.m.now) (grind (arith, common_steps))
