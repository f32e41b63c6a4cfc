use mathlib.Core.Path.{sym}
use Rattle.image.proofs.FormLaws as laws
use Rattle.image.proofs.form.width_of.Goals as goal

pub returns-then-form-eq2 : goal.returns-then-form-eq2
returns-then-form-eq2 c = sym (laws.width_wide _ c.if-form-eq2.true)

pub returns-else-form-eq2 : goal.returns-else-form-eq2
returns-else-form-eq2 c = sym (laws.width_plain _ c.requires c.if-form-eq2.false)
