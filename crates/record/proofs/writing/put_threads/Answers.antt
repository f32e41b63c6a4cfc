use mathlib.Core.Path.{◌≡◌, ap}
use native.Mathlib.Omega.{arith}
use lib.ListN.{length}
use Rattle.lists.specs.Tab.{joined}
use Rattle.lists.proofs.TabLaws as tabs
use Rattle.record.specs.Layout.{thread_part}
use Rattle.record.proofs.Laws as laws
use Rattle.record.proofs.writing.put_threads.Goals as goal

pub loop-i-init : goal.loop-i-init
unfolding joined
loop-i-init c = laws.over_none c.args.b.now 1938

pub copy-requires : goal.copy-requires
copy-requires c = omega (arith, ap length c.thread_bytes-a.ensures, ap length c.loop-i.invariant, tabs.length_over c.args.b.now 1938 (joined (thread_part c.args.m) c.loop-i.i))

pub loop-i-preserved : goal.loop-i-preserved
unfolding thread_part
loop-i-preserved c = rw (c.copy.ensures, c.thread_bytes-a.ensures, c.loop-i.invariant) (laws.row_next c.args.b.now 1938 18 c.loop-i.i (thread_part c.args.m) (laws.thread_length c.args.m))

pub returns : goal.returns
returns c =
    let e : c.loop-i.i ≡ 8 = omega arith in
    rw (← e) c.loop-i.invariant
