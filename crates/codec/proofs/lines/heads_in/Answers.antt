use mathlib.Core.Path.{◌≡◌, ap, ◌∙◌}
use Rattle.codec.proofs.Laws as laws
use Rattle.codec.proofs.Shapes as shapes
use native.Mathlib.Omega.{arith}
use Rattle.codec.proofs.lines.heads_in.Goals as goal

pub loop-k-init : goal.loop-k-init
loop-k-init c = c.no_heads-heads.ensures ∙ laws.heads_none c.args.z.form c.args.s.now

pub line_place-at-requires : goal.line_place-at-requires
line_place-at-requires c = (c.requires.0, omega (arith, c.head_lines-count.ensures, c.requires.1.0))

pub index_in-requires : goal.index_in-requires
index_in-requires c =
    let z = c.args.z in
    (c.requires.0, omega (arith, c.line_place-at.ensures, shapes.line_within z c.loop-k.k (omega (arith, c.head_lines-count.ensures)), c.requires.1.1))

pub offset_bounds-heads-k : goal.offset_bounds-heads-k
offset_bounds-heads-k c = omega (arith, c.head_lines-count.ensures, c.requires.1.0)

pub bounds-heads-k : goal.bounds-heads-k
bounds-heads-k c = omega (arith, c.head_lines-count.ensures, c.requires.1.0)

pub loop-k-preserved : goal.loop-k-preserved
loop-k-preserved c = rw (c.index_in.ensures, c.line_place-at.ensures, c.loop-k.invariant) (laws.heads_next c.args.z.form c.args.s.now c.loop-k.k (omega (arith, c.head_lines-count.ensures, c.requires.1.0)))

pub returns : goal.returns
returns c =
    let e : c.loop-k.k ≡ c.head_lines-count.result = omega arith in
    c.loop-k.invariant ∙ ap (laws.heads_to c.args.z.form c.args.s.now) (e ∙ c.head_lines-count.ensures) ∙ laws.heads_all c.args.z c.args.s.now
