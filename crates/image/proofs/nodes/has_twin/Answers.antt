use mathlib.Core.Bool.{true, false}
use mathlib.Core.Path.{◌≡◌, refl, sym, ap, ◌∙◌}
use native.Mathlib.Omega.{arith}
use Rattle.lists.specs.Find.{any}
use Rattle.lists.proofs.FindLaws as find
use Rattle.image.specs.Recovered.{twins, has_twin}
use Rattle.image.proofs.nodes.has_twin.Goals as goal

pub loop-j-init : goal.loop-j-init
unfolding any
loop-j-init g c = refl

pub returns-then-are_twins_at : goal.returns-then-are_twins_at
unfolding has_twin
returns-then-are_twins_at g c =
    sym (find.any_hit (twins (g.S.Nodes.image c.args.s.now) c.args.i) c.args.i c.loop-j.j (omega arith) (sym c.are_twins_at.ensures ∙ c.if-are_twins_at.true))

pub loop-j-preserved : goal.loop-j-preserved
loop-j-preserved g c =
    find.any_more (twins (g.S.Nodes.image c.args.s.now) c.args.i) c.loop-j.j c.loop-j.invariant (sym c.are_twins_at.ensures ∙ c.if-are_twins_at.false)

pub returns : goal.returns
unfolding has_twin
returns g c =
    let e : c.loop-j.j ≡ c.args.i = omega arith in
    sym (rw e at c.loop-j.invariant)
