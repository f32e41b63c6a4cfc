use Rattle.codec.proofs.Shapes as shapes
use native.Mathlib.Omega.{arith}
use Rattle.codec.proofs.lines.line_place.Goals as goal

pub overflow_mul-result : goal.overflow_mul-result
overflow_mul-result c = omega (arith, c.requires.1)

pub overflow_add-result : goal.overflow_add-result
overflow_add-result c = omega (arith, c.requires.1)

pub returns-then-form-eq2 : goal.returns-then-form-eq2
returns-then-form-eq2 c = shapes.line_wide _ _ c.if-form-eq2.true

pub overflow_mul-result-then-form-eq4 : goal.overflow_mul-result-then-form-eq4
overflow_mul-result-then-form-eq4 c = omega (arith, c.requires.1)

pub overflow_add-result-then-form-eq4 : goal.overflow_add-result-then-form-eq4
overflow_add-result-then-form-eq4 c = omega (arith, c.requires.1)

pub returns-then-form-eq4 : goal.returns-then-form-eq4
returns-then-form-eq4 c = shapes.line_desks _ _ c.if-form-eq4.true

pub overflow_mul-result-2 : goal.overflow_mul-result-2
overflow_mul-result-2 c = omega (arith, c.requires.1)

pub overflow_add-result-2 : goal.overflow_add-result-2
overflow_add-result-2 c = omega (arith, c.requires.1)

pub returns : goal.returns
returns c = shapes.line_plain _ _ c.requires.0 c.if-form-eq2.false c.if-form-eq4.false
