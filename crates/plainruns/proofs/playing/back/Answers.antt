use Prim.Native.Nat.{◌<◌}
use mathlib.Core.Path.{◌≡◌, refl, sym, ap, subst, ◌∙◌}
use mathlib.Core.Bool.{true, false}
use native.Mathlib.Omega.{arith}
use native.Mathlib.Numerals.{add-one}
use borrow.Author.Tests.{eq-eqb, ne_eqb}
use Rattle.machine.specs.Line.{shape_of, line_count}
use Rattle.machine.specs.declared.Machine.{Machine}
use Rattle.plainproof.specs.Plain.{backed}
use Rattle.plainruns.specs.Playable.{Small}
use Rattle.plainruns.proofs.PlayLaws as laws
use Rattle.plainruns.proofs.playing.back.Goals as goal
use Rattle.plainruns.proofs.playing.back.Goals.{then-picks-j, else-picks-j}

pub loop-j-init : goal.loop-j-init
unfolding backed
loop-j-init c = refl

pub written_back-x-requires : goal.written_back-x-requires
written_back-x-requires c =
    subst (λ (x : Machine). Small x × (c.loop-j.j < line_count (shape_of x))) (sym c.loop-j.invariant)
    (laws.backed_small c.args.picks c.args.r c.args.m c.loop-j.j c.requires.0, laws.backed_line c.args.picks c.args.r c.args.m c.loop-j.j c.loop-j.j (omega (arith, c.loop-j-test.true, c.requires.1)))

pub loop-j-preserved : goal.loop-j-preserved
loop-j-preserved c =
    let next = laws.backed_next c.args.picks c.args.r c.args.m c.loop-j.x c.loop-j.j c.loop-j.invariant in
    let more = ap (backed c.args.picks c.args.r c.args.m) (sym (add-one c.loop-j.j)) in
    elim c.if-picks-j.branch [
      | then-picks-j w ↦ w.x-is ∙ w.written_back-x.ensures ∙ next true (eq-eqb _ _ (w.if-picks-j.true ∙ add-one c.args.r)) ∙ more
      | else-picks-j w ↦ w.x-is ∙ next false (ne_eqb _ _ (λ e. w.if-picks-j.false (e ∙ sym (add-one c.args.r)))) ∙ more
    ]

pub returns : goal.returns
returns c = c.loop-j.invariant ∙ ap (backed c.args.picks c.args.r c.args.m) (let e : c.loop-j.j ≡ c.args.n = omega arith in e)
