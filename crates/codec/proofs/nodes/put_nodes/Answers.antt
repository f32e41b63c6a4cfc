use mathlib.Core.Path.{◌≡◌, refl, ap, ◌∙◌}
use native.Mathlib.Omega.{arith}
use Prim.Native.Nat.{ℕ}
use Rattle.image.proofs.FormLaws as forms
use Rattle.codec.proofs.Laws as laws
use Rattle.codec.proofs.Shapes.{size_place}
use lib.ListN.{length}
use Rattle.lists.specs.Tab.{over, joined}
use Rattle.lists.proofs.TabLaws as tabs
use Rattle.image.specs.Form.{header_size}
use Rattle.image.specs.Layout.{body_bytes}
use Rattle.codec.proofs.nodes.put_nodes.Goals as goal

pub loop-i-init : goal.loop-i-init
unfolding over body_bytes joined
loop-i-init c = refl

pub offset_bounds-nodes-i : goal.offset_bounds-nodes-i
offset_bounds-nodes-i c = omega (arith, c.requires.1.0)

pub bounds-nodes-i : goal.bounds-nodes-i
bounds-nodes-i c = omega (arith, c.requires.1.0)

pub place_of-at-requires : goal.place_of-at-requires
place_of-at-requires c = (c.requires.0, omega (arith, c.requires.1.0))

pub put_content-requires : goal.put_content-requires
put_content-requires c =
    let q = c.requires in
    (q.0, omega (arith, c.place_of-at.ensures, forms.place_within c.args.z c.loop-i.i c.args.z.n (omega arith), size_place c.args.z, q.1.1, ap length c.loop-i.invariant, tabs.length_over c.args.b.now (header_size c.args.z) (body_bytes c.args.z.form c.args.nodes c.loop-i.i)))

pub loop-i-preserved : goal.loop-i-preserved
loop-i-preserved c = rw (c.put_content.ensures, c.place_of-at.ensures, c.loop-i.invariant) (laws.body_over c.args.b.now c.args.z c.args.nodes c.loop-i.i c.requires.0)

pub returns : goal.returns
returns c = let e : c.loop-i.i ≡ c.args.z.n = omega arith in c.loop-i.invariant ∙ ap (λ (i : ℕ). over c.args.b.now (header_size c.args.z) (body_bytes c.args.z.form c.args.nodes i)) e
