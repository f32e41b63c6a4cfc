use mathlib.Core.Path.{◌≡◌, ap, ◌∙◌}
use Rattle.converting.proofs.DeskLaws as laws
use native.Mathlib.Omega.{arith}
use Rattle.converting.proofs.desks.heads_with.Goals as goal

pub loop-k-init : goal.loop-k-init
loop-k-init c = c.no_heads-heads.ensures ∙ laws.same_none c.args.h

pub offset_bounds-heads-k : goal.offset_bounds-heads-k
offset_bounds-heads-k c = omega (arith, c.head_lines-count.ensures, c.requires)

pub bounds-heads-k : goal.bounds-heads-k
bounds-heads-k c = omega (arith, c.head_lines-count.ensures, c.requires)

pub loop-k-preserved : goal.loop-k-preserved
loop-k-preserved c = rw c.loop-k.invariant (laws.same_next c.args.h c.loop-k.k (omega (arith, c.head_lines-count.ensures, c.requires)))

pub returns : goal.returns
returns c =
    let e : c.loop-k.k ≡ c.head_lines-count.result = omega arith in
    c.loop-k.invariant ∙ ap (laws.same_to c.args.h) (e ∙ c.head_lines-count.ensures) ∙ laws.same_all c.args.z c.args.h
