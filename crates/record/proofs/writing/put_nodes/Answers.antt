use mathlib.Core.Path.{◌≡◌, ap}
use native.Mathlib.Omega.{arith}
use lib.ListN.{length}
use Rattle.lists.specs.Tab.{joined}
use Rattle.lists.proofs.TabLaws as tabs
use Rattle.record.specs.Layout.{node_part}
use Rattle.record.proofs.Laws as laws
use Rattle.record.proofs.writing.put_nodes.Goals as goal

pub loop-i-init : goal.loop-i-init
unfolding joined
loop-i-init c = laws.over_none c.args.b.now 146

pub copy-requires : goal.copy-requires
copy-requires c = omega (arith, ap length c.node_bytes-a.ensures, ap length c.loop-i.invariant, tabs.length_over c.args.b.now 146 (joined (node_part c.args.m) c.loop-i.i))

pub loop-i-preserved : goal.loop-i-preserved
unfolding node_part
loop-i-preserved c = rw (c.copy.ensures, c.node_bytes-a.ensures, c.loop-i.invariant) (laws.row_next c.args.b.now 146 28 c.loop-i.i (node_part c.args.m) (laws.node_length c.args.m))

pub returns : goal.returns
returns c =
    let e : c.loop-i.i ≡ 64 = omega arith in
    rw (← e) c.loop-i.invariant
