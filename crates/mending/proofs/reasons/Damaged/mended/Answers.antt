use Prim.Native.Nat.{◌≤◌}
use mathlib.Core.Path.{◌≡◌, ap, ◌∙◌}
use native.Mathlib.Omega.{arith}
use lib.ListN.{length}
use Rattle.image.specs.Layout.{image_in}
use Rattle.image.specs.declared.Image.{Image}
use Rattle.codec.proofs.Lying.{nodes_in_lem}
use Rattle.mending.proofs.Turns as turns
use Rattle.mending.proofs.reasons.Damaged.mended.Goals as goal

pub image_in-g-requires : goal.image_in-g-requires
image_in-g-requires c = turns.lies_own _ _ c.args.self.now.lying.lies

pub loop-i-init : goal.loop-i-init
loop-i-init c = ap (λ (g : Image). g.nodes) c.image_in-g.ensures ∙ turns.nodes_none (image_in c.args.self.now.lying.bytes.now)

pub bounds-g-i : goal.bounds-g-i
bounds-g-i c =
    let l = c.args.self.now.lying in
    omega (arith, c.count-n.ensures, nodes_in_lem _ _ l.lies, l.lies.nodes)

pub bounds-nodes-i : goal.bounds-nodes-i
bounds-nodes-i c =
    let l = c.args.self.now.lying in
    omega (arith, c.count-n.ensures, nodes_in_lem _ _ l.lies, l.lies.nodes)

pub loop-i-preserved : goal.loop-i-preserved
loop-i-preserved c =
    let w = c.args.self.now.lying in
    let s = w.bytes.now in
    let l = turns.in_length s (turns.lies_own s _ w.lies).nodes in
    rw (c.mended_content.ensures, c.reason-why.ensures, c.image_in-g.ensures, c.loop-i.invariant)
    (turns.nodes_next (image_in s) c.loop-i.i (omega (arith, l, c.count-n.ensures, nodes_in_lem _ _ w.lies, w.lies.nodes)))

pub returns : goal.returns
returns c =
    let w = c.args.self.now.lying in
    let s = w.bytes.now in
    let e : c.loop-i.i ≡ (image_in s).n = omega (arith, c.count-n.ensures) in
    let n : (image_in s).n ≤ length (image_in s).nodes = omega (arith, nodes_in_lem s _ w.lies, turns.in_length s (turns.lies_own s _ w.lies).nodes, w.lies.nodes) in
    ap (λ (g : Image). record { form = g.form; n = g.n; t = g.t; heads = g.heads; nodes = c.loop-i.nodes }) c.image_in-g.ensures
    ∙ turns.mended_by (image_in s) n c.loop-i.nodes (c.loop-i.invariant ∙ ap (turns.nodes_mended (image_in s)) e)
