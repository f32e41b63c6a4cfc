use borrow.Author.Tests.{eq-eqb, ne_eqb, lt-ltb, le-ltb}
use Rattle.image.specs.Form.{per_desk}
use Rattle.mending.specs.Bytes.{mend_shape}
use Rattle.mending.proofs.shape_at.Goals as goal

pub returns-then-s-lt10 : goal.returns-then-s-lt10
unfolding mend_shape
returns-then-s-lt10 c = rw (lt-ltb _ _ c.if-s-lt10.true)

pub returns-then-form_in-eq4 : goal.returns-then-form_in-eq4
unfolding mend_shape per_desk
returns-then-form_in-eq4 c = rw (le-ltb _ _ c.if-s-lt10.false, ← c.form_in.ensures, eq-eqb _ _ c.if-form_in-eq4.true)

pub returns : goal.returns
unfolding mend_shape per_desk
returns c = rw (le-ltb _ _ c.if-s-lt10.false, ← c.form_in.ensures, ne_eqb _ _ c.if-form_in-eq4.false) c.shape_part.ensures
