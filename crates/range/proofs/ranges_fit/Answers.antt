use Rattle.std.proofs.Common.{rules, arith}
use Rattle.std.proofs.lemmas.Grind.{common_steps}
use Rattle.range.specs.Parts.{bad_node, bad_thread}
use Rattle.machine.specs.Range.{ranges_fit}
use Rattle.range.proofs.ranges_fit.Goals as goal

pub returns-then-nodes_fit : goal.returns-then-nodes_fit
unfolding ranges_fit bad_node bad_thread
returns-then-nodes_fit c = grind (arith, common_steps)

pub returns-else-nodes_fit : goal.returns-else-nodes_fit
unfolding ranges_fit bad_node bad_thread
returns-else-nodes_fit c = search rules
