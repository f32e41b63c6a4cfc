use mathlib.Core.Path.{◌∙◌}
use native.Mathlib.Omega.{arith}
use Rattle.machine.specs.Start.{queue_of}
use Rattle.machine.proofs.TableLaws as tables
use Rattle.machine.proofs.start.nodes_of.Goals as goal

pub loop-i-init : goal.loop-i-init
loop-i-init c = c.blank_nodes-nodes.ensures ∙ tables.nodes_none c.args.g.now c.args.d (queue_of c.args.g.now)

pub loop-i-preserved : goal.loop-i-preserved
loop-i-preserved c = rw (c.node_of.ensures, c.loop-i.invariant) (tables.nodes_next c.args.g.now c.args.d (queue_of c.args.g.now) c.loop-i.i (omega arith))
