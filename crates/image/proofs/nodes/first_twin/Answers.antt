use mathlib.Core.Bool.{false}
use mathlib.Core.Path.{◌≡◌, refl, sym, ◌∙◌}
use native.Mathlib.Nat.{sub-zero}
use native.Mathlib.Omega.{arith}
use Rattle.lists.specs.Find.{any}
use Rattle.lists.proofs.FindLaws as find
use Rattle.image.specs.Recovered.{twins, has_twin, first_twin}
use Rattle.image.proofs.nodes.first_twin.Goals as goal

pub pairs-init : goal.pairs-init
unfolding first_twin
pairs-init g c = (c.count-n.ensures, rw sub-zero)

pub loop-j-init : goal.loop-j-init
unfolding any
loop-j-init g c = (c.pairs.invariant.0, refl)

pub loop-j-preserved : goal.loop-j-preserved
loop-j-preserved g c =
    (c.loop-j.invariant.0, find.any_more (twins (g.S.Nodes.image c.args.s.now) c.pairs.i) c.loop-j.j c.loop-j.invariant.1 (sym c.are_twins_at.ensures ∙ c.if-are_twins_at.false))

pub pairs-preserved : goal.pairs-preserved
unfolding has_twin
pairs-preserved g c =
    let m = g.S.Nodes.image c.args.s.now in
    let e : c.loop-j.j ≡ c.pairs.i = omega arith in
    let none : any (twins m c.pairs.i) c.pairs.i ≡ false = rw e at c.loop-j.invariant.1 in
    (c.loop-j.invariant.0, c.pairs.invariant.1 ∙ find.least_next (has_twin m) m.n c.pairs.i (omega (arith, c.count-n.ensures)) none)

pub returns-after-pairs : goal.returns-after-pairs
returns-after-pairs g c =
    let m = g.S.Nodes.image c.args.s.now in
    let e : m.n ≡ c.pairs.i = omega (arith, c.count-n.ensures) in
    c.pairs.invariant.0 ∙ e ∙ sym (c.pairs.invariant.1 ∙ find.least_end (has_twin m) m.n c.pairs.i (omega (arith, c.count-n.ensures)))

pub returns-then-are_twins_at : goal.returns-then-are_twins_at
unfolding has_twin
returns-then-are_twins_at g c =
    let m = g.S.Nodes.image c.args.s.now in
    let hit = find.any_hit (twins m c.pairs.i) c.pairs.i c.loop-j.j (omega arith) (sym c.are_twins_at.ensures ∙ c.if-are_twins_at.true) in
    sym (c.pairs.invariant.1 ∙ find.least_hit (has_twin m) m.n c.pairs.i (omega (arith, c.count-n.ensures)) hit)
