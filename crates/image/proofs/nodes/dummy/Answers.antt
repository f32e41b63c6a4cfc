use mathlib.Core.Path.{◌≡◌, sym, ◌∙◌}
use native.Mathlib.Nat.{sub-zero}
use native.Mathlib.Omega.{arith}
use Rattle.lists.proofs.FindLaws as find
use Rattle.image.proofs.RecoveredLaws.{unrecovered, unrecovered_is}
use Rattle.image.proofs.nodes.dummy.Goals as goal

pub loop-i-init : goal.loop-i-init
loop-i-init g c = unrecovered_is (g.S.Nodes.image c.args.s.now) ∙ rw sub-zero

pub returns-then-not-is_recovered_at : goal.returns-then-not-is_recovered_at
unfolding unrecovered
returns-then-not-is_recovered_at g c =
    let m = g.S.Nodes.image c.args.s.now in
    sym (c.loop-i.invariant ∙ find.least_hit (unrecovered m) m.n c.loop-i.i (omega (arith, c.count-n.ensures)) (rw (← c.is_recovered_at.ensures, c.if-not-is_recovered_at.true)))

pub loop-i-preserved : goal.loop-i-preserved
unfolding unrecovered
loop-i-preserved g c =
    let m = g.S.Nodes.image c.args.s.now in
    c.loop-i.invariant ∙ find.least_next (unrecovered m) m.n c.loop-i.i (omega (arith, c.count-n.ensures)) (rw (← c.is_recovered_at.ensures, c.if-not-is_recovered_at.false))

pub returns : goal.returns
returns g c =
    let m = g.S.Nodes.image c.args.s.now in
    let e : c.count-n.result ≡ c.loop-i.i = omega arith in
    e ∙ sym (c.loop-i.invariant ∙ find.least_end (unrecovered m) m.n c.loop-i.i (omega (arith, c.count-n.ensures)))
