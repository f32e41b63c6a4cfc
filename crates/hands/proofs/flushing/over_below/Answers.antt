use mathlib.Core.Path.{ap, ◌∙◌}
use native.Mathlib.Omega.{arith}
use Rattle.hands.specs.Sets.{over_with}
use Rattle.hands.proofs.FlushLaws as laws
use Rattle.hands.proofs.flushing.over_below.Goals as goal

pub loop-u-init : goal.loop-u-init
loop-u-init c = laws.over_none _ _

pub over_with-r-requires : goal.over_with-r-requires
over_with-r-requires c = (omega arith, rw c.loop-u.invariant (laws.over_lt c.args.over c.args.late c.loop-u.u))

pub loop-u-preserved : goal.loop-u-preserved
loop-u-preserved c = c.over_with-r.ensures ∙ ap (over_with c.args.over c.args.late c.loop-u.u) c.loop-u.invariant ∙ laws.over_next c.args.over c.args.late c.loop-u.u
