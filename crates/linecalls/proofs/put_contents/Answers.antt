use mathlib.Core.Path.{◌≡◌, refl, ap}
use native.Mathlib.Omega.{arith}
use lib.ListN.{length}
use Rattle.lists.specs.Tab.{joined, over}
use Rattle.lists.proofs.TabLaws.{length_over}
use Rattle.image.specs.Layout.{body_bytes}
use Rattle.calls.proofs.LineLaws as laws
use Rattle.linecalls.proofs.put_contents.Goals as goal

pub loop-i-init : goal.loop-i-init
unfolding over body_bytes joined
loop-i-init c = refl

pub put_content-requires : goal.put_content-requires
put_content-requires c = (laws.wide_known, omega (arith, laws.wide_size, ap length c.loop-i.invariant, length_over c.args.b.now 0 (body_bytes 2 c.args.contents c.loop-i.i)))

pub loop-i-preserved : goal.loop-i-preserved
loop-i-preserved c = rw (c.put_content.ensures, c.loop-i.invariant) (laws.contents_next c.args.b.now c.args.contents c.loop-i.i)
