use Prim.Native.Nat.{◌<◌}
use mathlib.Core.Path.{sym, ap, ◌∙◌}
use native.Mathlib.Omega.{arith}
use Rattle.image.proofs.FormLaws as forms
use Rattle.image.specs.Bytes.{at1}
use Rattle.image.specs.declared.Content.{Content}
use Rattle.codec.proofs.Lying.{content_in, nodes_in_lem}
use Rattle.codec.proofs.Shapes.{size_place}
use Rattle.codec.proofs.sound.LyingNodes.linked.Goals as goal

pub place_of-at-requires : goal.place_of-at-requires
place_of-at-requires c =
    let w = c.args.self.now in
    (w.lies.form, omega (arith, c.requires.1, nodes_in_lem _ _ w.lies, w.lies.nodes))

pub bounds-self-at : goal.bounds-self-at
bounds-self-at c =
    let w = c.args.self.now in
    let z = w.shape in
    let i : c.args.i < z.n = omega (arith, c.requires.1, nodes_in_lem _ _ w.lies) in
    omega (arith, c.place_of-at.ensures, forms.place_within z c.args.i z.n i, forms.size_is _ w.lies.form, size_place z, w.lies.long)

pub returns : goal.returns
returns c =
    let w = c.args.self.now in
    let i : c.args.i < w.shape.n = omega (arith, c.requires.1, nodes_in_lem _ _ w.lies) in
    ap (at1 w.bytes.now) c.place_of-at.ensures ∙ sym (ap (λ (v : Content). v.linked) (content_in w.bytes.now w.shape c.args.i w.lies i))
