use Rattle.codec.proofs.Shapes as shapes
use Rattle.codec.proofs.bytes.shape_in.Goals as goal

pub returns-then-form-eq4 : goal.returns-then-form-eq4
returns-then-form-eq4 c = shapes.shape_desks c.args.s.now c.form_in-form.result c.form_in-form.ensures c.if-form-eq4.true

pub returns : goal.returns
returns c = shapes.shape_other c.args.s.now c.form_in-form.result c.form_in-form.ensures c.if-form-eq4.false
