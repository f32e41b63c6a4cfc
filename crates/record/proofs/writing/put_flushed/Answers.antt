use mathlib.Core.Path.{◌≡◌, ap}
use native.Mathlib.Omega.{arith}
use lib.ListN.{length}
use Rattle.lists.specs.Tab.{joined}
use Rattle.lists.proofs.TabLaws as tabs
use Rattle.record.specs.Layout.{flush_part}
use Rattle.record.proofs.Laws as laws
use Rattle.record.proofs.writing.put_flushed.Goals as goal

pub loop-i-init : goal.loop-i-init
unfolding joined
loop-i-init c = laws.over_none c.args.b.now 2083

pub copy-requires : goal.copy-requires
copy-requires c = omega (arith, ap length c.flush_bytes-a.ensures, ap length c.loop-i.invariant, tabs.length_over c.args.b.now 2083 (joined (flush_part c.args.l) c.loop-i.i))

pub loop-i-preserved : goal.loop-i-preserved
unfolding flush_part
loop-i-preserved c = rw (c.copy.ensures, c.flush_bytes-a.ensures, c.loop-i.invariant) (laws.row_next c.args.b.now 2083 13 c.loop-i.i (flush_part c.args.l) (laws.flush_length c.args.l))

pub returns : goal.returns
returns c =
    let e : c.loop-i.i ≡ 8 = omega arith in
    rw (← e) c.loop-i.invariant
