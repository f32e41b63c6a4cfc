use mathlib.Core.Path.{◌≡◌, ap, ◌∙◌}
use native.Mathlib.Omega.{arith}
use Rattle.image.proofs.FormLaws as forms
use Rattle.codec.proofs.Laws as laws
use Rattle.codec.proofs.Shapes.{size_place}
use Rattle.codec.proofs.nodes.nodes_in.Goals as goal

pub loop-i-init : goal.loop-i-init
loop-i-init c = c.no_contents-nodes.ensures ∙ laws.nodes_none c.args.z c.args.s.now

pub place_of-at-requires : goal.place_of-at-requires
place_of-at-requires c = (c.requires.0, omega (arith, c.requires.1.0))

pub content_at-requires : goal.content_at-requires
content_at-requires c =
    let p = c.requires in
    (p.0, omega (arith, c.place_of-at.ensures, forms.place_within c.args.z c.loop-i.i c.args.z.n (omega arith), size_place c.args.z, p.1.1))

pub offset_bounds-nodes-i : goal.offset_bounds-nodes-i
offset_bounds-nodes-i c = omega (arith, c.requires.1.0)

pub bounds-nodes-i : goal.bounds-nodes-i
bounds-nodes-i c = omega (arith, c.requires.1.0)

pub loop-i-preserved : goal.loop-i-preserved
loop-i-preserved c = rw (c.content_at.ensures, c.place_of-at.ensures, c.loop-i.invariant) (laws.nodes_next c.args.z c.args.s.now c.loop-i.i (omega (arith, c.requires.1.0)))

pub returns : goal.returns
returns c =
    let e : c.loop-i.i ≡ c.args.z.n = omega arith in
    c.loop-i.invariant ∙ ap (laws.nodes_to c.args.z c.args.s.now) e ∙ laws.nodes_all c.args.z c.args.s.now
