use mathlib.Core.Path.{◌≡◌, ◌∙◌}
use native.Mathlib.Omega.{arith}
use Rattle.lists.proofs.TabLaws as tabs
use Rattle.image.specs.Layout.{no_contents}
use Rattle.record.specs.Layout.{kept_in}
use Rattle.record.proofs.reading.kept_in.Goals as goal

pub loop-i-init : goal.loop-i-init
loop-i-init c = c.no_contents-l.ensures ∙ tabs.front_none (kept_in c.args.s.now) no_contents

pub loop-i-preserved : goal.loop-i-preserved
unfolding kept_in no_contents
loop-i-preserved c =
    let s = c.args.s.now in
    rw (c.kept_at.ensures, c.loop-i.invariant) (tabs.front_next (kept_in s) c.loop-i.i no_contents (omega arith))

pub returns : goal.returns
returns c =
    let e : c.loop-i.i ≡ 64 = omega arith in
    rw (← e) c.loop-i.invariant
