use mathlib.Core.Path.{◌≡◌, ap}
use native.Mathlib.Omega.{arith}
use lib.ListN.{length}
use Rattle.lists.specs.Tab.{joined}
use Rattle.lists.proofs.TabLaws as tabs
use Rattle.record.specs.Layout.{long_part}
use Rattle.record.proofs.Laws as laws
use Rattle.record.proofs.writing.put_longs.Goals as goal

pub loop-i-init : goal.loop-i-init
unfolding joined
loop-i-init c = laws.over_none c.args.b.now c.args.at

pub copy-requires : goal.copy-requires
copy-requires c = omega (arith, ap length c.long_bytes-a.ensures, ap length c.loop-i.invariant, tabs.length_over c.args.b.now c.args.at (joined (long_part c.args.l) c.loop-i.i))

pub loop-i-preserved : goal.loop-i-preserved
unfolding long_part
loop-i-preserved c = rw (c.copy.ensures, c.long_bytes-a.ensures, c.loop-i.invariant) (laws.row_next c.args.b.now c.args.at 8 c.loop-i.i (long_part c.args.l) (laws.long_length c.args.l))

pub returns : goal.returns
returns c =
    let e : c.loop-i.i ≡ 8 = omega arith in
    rw (← e) c.loop-i.invariant
