use mathlib.Core.Path.{sym}
use native.Mathlib.Omega.{arith}
use Rattle.image.proofs.FormLaws as laws
use Rattle.image.proofs.form.top_of.Goals as goal
use Rattle.image.proofs.form.top_of.Goals.{in_default-via-then-form-lt2, in_default-via-else-form-lt2+else-form-lt4}

pub returns-in-2 : goal.returns-in-2
returns-in-2 c = sym (laws.top_wide _ (omega arith) (omega arith))

pub returns-in_default : goal.returns-in_default
returns-in_default c = elim c.in_default.branch [
  | in_default-via-then-form-lt2 w ↦ sym (laws.top_short _ (omega arith) (omega arith))
  | in_default-via-else-form-lt2+else-form-lt4 w ↦ sym (laws.top_short _ (omega arith) (omega arith))
]
