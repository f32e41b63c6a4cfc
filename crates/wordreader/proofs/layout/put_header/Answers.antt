use mathlib.Core.Path.{ap, ◌∙◌}
use native.Mathlib.Omega.{arith}
use native.Mathlib.Nat.{zero-mul}
use Rattle.image.specs.Form.{known, width_of, heads_at}
use Rattle.image.specs.declared.Shape.{Shape}
use Rattle.wordreader.proofs.PutLaws as puts
use Rattle.wordreader.proofs.layout.put_header.Goals as goal

pub put_mark-requires : goal.put_mark-requires
put_mark-requires c = omega (arith, (puts.head_first c.args.v.form).0, c.requires.1)

pub put_low-requires : goal.put_low-requires
put_low-requires c = omega (arith, (puts.head_first c.args.v.form).0, c.requires.1, c.put_mark.auto.b)

pub put_low-requires-2 : goal.put_low-requires-2
put_low-requires-2 c = omega (arith, (puts.head_first c.args.v.form).0, c.requires.1, c.put_mark.auto.b, c.put_low.auto.b)

pub put_low-requires-3 : goal.put_low-requires-3
put_low-requires-3 c = omega (arith, (puts.head_first c.args.v.form).0, c.requires.1, c.put_mark.auto.b, c.put_low.auto.b, c.put_low-2.auto.b)

pub put_shape-requires : goal.put_shape-requires
put_shape-requires c =
    let e = c.shape_said-g.ensures in
    let f = ap (λ (g : Shape). known g.form) e in
    let h = ap (λ (g : Shape). heads_at g.form) e in
    (f ∙ c.requires.0, omega (arith, h, zero-mul (width_of c.args.v.form), c.requires.1, c.put_mark.auto.b, c.put_low.auto.b, c.put_low-2.auto.b, c.put_low-3.auto.b))

pub returns : goal.returns
returns c =
    rw (c.put_shape.ensures, c.put_low-3.ensures, c.put_low-2.ensures, c.put_low.ensures, c.put_mark.ensures)
    (puts.header_over c.args.b.now c.args.v c.shape_said-g.result c.shape_said-g.ensures)
