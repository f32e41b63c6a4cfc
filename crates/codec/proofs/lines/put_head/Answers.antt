use mathlib.Core.Path.{◌≡◌, ap, ◌∙◌}
use lib.ListN.{length, get_or}
use Rattle.lists.proofs.TabLaws as tabs
use Rattle.image.specs.Form.{heads_at, head_lines}
use Rattle.image.proofs.FormLaws as forms
use Rattle.codec.proofs.Laws as laws
use Rattle.codec.proofs.Shapes as shapes
use native.Mathlib.Omega.{arith}
use Rattle.codec.proofs.lines.put_head.Goals as goal

pub put_mark-requires : goal.put_mark-requires
put_mark-requires c = (c.requires.0, omega (arith, c.requires.1.1, forms.header_is c.args.z))

pub loop-k-init : goal.loop-k-init
loop-k-init c = laws.lines_none _ _ _ _

pub line_place-at-requires : goal.line_place-at-requires
line_place-at-requires c = (c.requires.0, omega (arith, c.head_lines-count.ensures, c.requires.1.0))

pub offset_bounds-heads-k : goal.offset_bounds-heads-k
offset_bounds-heads-k c = omega (arith, c.head_lines-count.ensures, c.requires.1.0)

pub bounds-heads-k : goal.bounds-heads-k
bounds-heads-k c = omega (arith, c.head_lines-count.ensures, c.requires.1.0)

pub put_index-requires : goal.put_index-requires
put_index-requires c =
    let z = c.args.z in
    let e = ap length c.loop-k.invariant ∙ tabs.length_over _ (heads_at z.form) (laws.lines_to z.form (λ j. get_or c.args.heads j 0) c.loop-k.k) ∙ c.put_mark.auto.b in
    (c.requires.0, omega (arith, c.line_place-at.ensures, shapes.line_within z c.loop-k.k (omega (arith, c.head_lines-count.ensures)), c.requires.1.1, e))

pub loop-k-preserved : goal.loop-k-preserved
loop-k-preserved c = rw (c.put_index.ensures, c.line_place-at.ensures, c.loop-k.invariant) (laws.lines_over _ c.args.z.form (λ j. get_or c.args.heads j 0) c.loop-k.k)

pub returns : goal.returns
returns c =
    let e : c.loop-k.k ≡ head_lines c.args.z = omega (arith, c.head_lines-count.ensures) in
    rw (c.loop-k.invariant, e, c.put_mark.ensures) (laws.head_over c.args.b.now c.args.z (λ j. get_or c.args.heads j 0) c.requires.0)
