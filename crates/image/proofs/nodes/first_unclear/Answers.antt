use mathlib.Core.Path.{◌≡◌, sym, ◌∙◌}
use native.Mathlib.Nat.{sub-zero}
use native.Mathlib.Omega.{arith}
use Rattle.lists.proofs.FindLaws as find
use borrow.Author.Tests.{lt-ltb, le-ltb}
use Rattle.image.proofs.RecoveredLaws.{unclear, unclear_is}
use Rattle.image.proofs.nodes.first_unclear.Goals as goal

pub loop-i-init : goal.loop-i-init
loop-i-init g c = unclear_is (g.S.Nodes.image c.args.s.now) ∙ rw sub-zero

pub returns-then-linked-gt1 : goal.returns-then-linked-gt1
unfolding unclear
returns-then-linked-gt1 g c =
    let m = g.S.Nodes.image c.args.s.now in
    sym (c.loop-i.invariant ∙ find.least_hit (unclear m) m.n c.loop-i.i (omega (arith, c.count-i-end.ensures)) (rw (← c.linked.ensures) (lt-ltb _ _ c.if-linked-gt1.true)))

pub loop-i-preserved : goal.loop-i-preserved
unfolding unclear
loop-i-preserved g c =
    let m = g.S.Nodes.image c.args.s.now in
    c.loop-i.invariant ∙ find.least_next (unclear m) m.n c.loop-i.i (omega (arith, c.count-i-end.ensures)) (rw (← c.linked.ensures) (le-ltb _ _ c.if-linked-gt1.false))

pub returns : goal.returns
returns g c =
    let m = g.S.Nodes.image c.args.s.now in
    let e : c.count.result ≡ c.loop-i.i = omega (arith, c.count.ensures, c.count-i-end.ensures) in
    e ∙ sym (c.loop-i.invariant ∙ find.least_end (unclear m) m.n c.loop-i.i (omega (arith, c.count-i-end.ensures)))
