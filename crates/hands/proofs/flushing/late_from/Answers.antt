use mathlib.Core.Path.{◌≡◌}
use native.Mathlib.Omega.{arith}
use lib.ListN.{length}
use Rattle.hands.proofs.FlushLaws as laws
use borrow.Author.Rules.{rules}
use Rattle.hands.proofs.flushing.late_from.Goals as goal

pub loop-u-init : goal.loop-u-init
loop-u-init c = laws.late_none _ _

pub loop-u-preserved : goal.loop-u-preserved
loop-u-preserved c =
    let n : length c.args.late ≡ 8 = search rules in
    rw (c.late_of.ensures, c.loop-u.invariant) (laws.late_next c.args.late c.args.k c.loop-u.u (omega arith))
