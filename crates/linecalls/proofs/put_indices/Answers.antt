use mathlib.Core.Path.{◌≡◌, refl, ap}
use native.Mathlib.Omega.{arith}
use lib.ListN.{length}
use Rattle.lists.specs.Tab.{joined, over}
use Rattle.lists.proofs.TabLaws.{length_over}
use Rattle.calls.specs.Line.{index_bytes}
use Rattle.calls.proofs.LineLaws as laws
use Rattle.linecalls.proofs.put_indices.Goals as goal

pub loop-i-init : goal.loop-i-init
unfolding over index_bytes joined
loop-i-init c = refl

pub put_index-requires : goal.put_index-requires
put_index-requires c = (laws.wide_known, omega (arith, laws.wide_width, ap length c.loop-i.invariant, length_over c.args.b.now 0 (index_bytes c.args.contents c.loop-i.i)))

pub loop-i-preserved : goal.loop-i-preserved
loop-i-preserved c = rw (c.put_index.ensures, c.loop-i.invariant) (laws.indices_next c.args.b.now c.args.contents c.loop-i.i)
