use Rattle.lists.specs.Tab.{over}
use Rattle.image.proofs.FormLaws as forms
use Rattle.codec.proofs.Shapes as shapes
use native.Mathlib.Omega.{arith}
use Rattle.codec.proofs.lines.put_mark.Goals as goal

pub put_six-requires : goal.put_six-requires
put_six-requires c = omega (arith, c.requires.1, (forms.heads_few c.args.z.form).0)

pub bounds-b-6 : goal.bounds-b-6
bounds-b-6 c = omega (arith, c.requires.1, shapes.heads_desks _ c.if-form-eq4.true, c.put_six.auto.b)

pub returns-then-form-eq4 : goal.returns-then-form-eq4
unfolding over
returns-then-form-eq4 c = rw (c.put_six.ensures, shapes.mark_desks c.args.z c.if-form-eq4.true)

pub put_six-requires-2 : goal.put_six-requires-2
put_six-requires-2 c = omega (arith, c.requires.1, (forms.heads_few c.args.z.form).0)

pub returns : goal.returns
returns c = rw (shapes.mark_plain c.args.z c.requires.0 c.if-form-eq4.false) c.put_six-2.ensures
