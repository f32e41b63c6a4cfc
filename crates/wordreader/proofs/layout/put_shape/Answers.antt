use native.Mathlib.Omega.{arith}
use lib.ListN.{length-set}
use Rattle.image.proofs.FormLaws as forms
use Rattle.codec.proofs.Shapes as shapes
use Rattle.wordreader.proofs.PutLaws as puts
use Rattle.wordreader.proofs.layout.put_shape.Goals as goal

pub put_mark-requires : goal.put_mark-requires
put_mark-requires c = omega (arith, c.requires.1, (forms.heads_few c.args.g.form).0)

pub bounds-b-13 : goal.bounds-b-13
bounds-b-13 c = omega (arith, c.requires.1, c.put_mark.auto.b, (forms.heads_few c.args.g.form).0)

pub bounds-b-14 : goal.bounds-b-14
bounds-b-14 c = simp length-set (omega (arith, c.requires.1, c.put_mark.auto.b, shapes.heads_desks c.args.g.form c.if-g-eq4.true))

pub returns-then-g-eq4 : goal.returns-then-g-eq4
returns-then-g-eq4 c = rw c.put_mark.ensures (puts.desks_over c.args.b.now c.args.g c.if-g-eq4.true)

pub put_mark-requires-2 : goal.put_mark-requires-2
put_mark-requires-2 c = omega (arith, c.requires.1, (forms.heads_few c.args.g.form).0)

pub bounds-b-13-2 : goal.bounds-b-13-2
bounds-b-13-2 c = omega (arith, c.requires.1, c.put_mark-2.auto.b, (forms.heads_few c.args.g.form).0)

pub returns : goal.returns
returns c = rw c.put_mark-2.ensures (puts.plain_over c.args.b.now c.args.g c.requires.0 c.if-g-eq4.false)
