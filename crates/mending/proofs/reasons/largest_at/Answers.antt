use mathlib.Core.Path.{◌≡◌, ap, ◌∙◌}
use native.Mathlib.Omega.{arith}
use Rattle.image.specs.Layout.{image_in}
use Rattle.mending.specs.Mended.{larger_at, largest_at}
use Rattle.mending.proofs.Plain.{largest_le}
use Rattle.mending.proofs.Turns as turns
use Rattle.mending.proofs.reasons.largest_at.Goals as goal

pub loop-k-init : goal.loop-k-init
loop-k-init c = turns.largest_none (image_in c.args.w.now.bytes.now)

pub larger_at-r-requires : goal.larger_at-r-requires
larger_at-r-requires c =
    let g = image_in c.args.w.now.bytes.now in
    (omega (arith, c.loop-k.invariant, largest_le g c.loop-k.k, c.count-n.ensures), omega (arith, c.count-n.ensures))

pub loop-k-preserved : goal.loop-k-preserved
loop-k-preserved c =
    let g = image_in c.args.w.now.bytes.now in
    c.larger_at-r.ensures ∙ ap (λ r. larger_at g r c.loop-k.k) c.loop-k.invariant ∙ turns.largest_next g c.loop-k.k

pub returns : goal.returns
returns c =
    let g = image_in c.args.w.now.bytes.now in
    let e : c.loop-k.k ≡ g.n = omega (arith, c.count-n.ensures) in
    c.loop-k.invariant ∙ ap (largest_at g) e
