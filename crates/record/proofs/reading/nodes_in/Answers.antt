use mathlib.Core.Path.{◌≡◌, ◌∙◌}
use native.Mathlib.Omega.{arith}
use Rattle.lists.proofs.TabLaws as tabs
use Rattle.machine.specs.Record.{blank_nodes}
use Rattle.record.specs.Layout.{node_in}
use Rattle.record.proofs.reading.nodes_in.Goals as goal

pub loop-i-init : goal.loop-i-init
loop-i-init c = c.blank_nodes-l.ensures ∙ tabs.front_none (node_in c.args.s.now) blank_nodes

pub loop-i-preserved : goal.loop-i-preserved
unfolding node_in blank_nodes
loop-i-preserved c =
    let s = c.args.s.now in
    rw (c.node_at.ensures, c.loop-i.invariant) (tabs.front_next (node_in s) c.loop-i.i blank_nodes (omega arith))

pub returns : goal.returns
returns c =
    let e : c.loop-i.i ≡ 64 = omega arith in
    rw (← e) c.loop-i.invariant
