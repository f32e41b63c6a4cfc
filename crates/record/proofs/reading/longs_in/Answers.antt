use mathlib.Core.Path.{◌≡◌, ◌∙◌}
use native.Mathlib.Omega.{arith}
use Rattle.lists.proofs.TabLaws as tabs
use Rattle.image.specs.Layout.{no_heads}
use Rattle.record.specs.Layout.{long_in}
use Rattle.record.proofs.reading.longs_in.Goals as goal

pub loop-i-init : goal.loop-i-init
loop-i-init c = c.no_heads-l.ensures ∙ tabs.front_none (long_in c.args.s.now c.args.at) no_heads

pub loop-i-preserved : goal.loop-i-preserved
unfolding long_in no_heads
loop-i-preserved c = rw (c.long_at.ensures, c.loop-i.invariant) (tabs.front_next (long_in c.args.s.now c.args.at) c.loop-i.i no_heads (omega arith))

pub returns : goal.returns
returns c =
    let e : c.loop-i.i ≡ 8 = omega arith in
    rw (← e) c.loop-i.invariant
