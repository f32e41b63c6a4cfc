use mathlib.Core.Path.{sym}
use native.Mathlib.Omega.{arith}
use Rattle.image.proofs.FormLaws as laws
use Rattle.image.proofs.form.place_of.Goals as goal

pub returns-in-2 : goal.returns-in-2
returns-in-2 c = sym (laws.place_wide _ _ (omega arith))

pub returns-in-4 : goal.returns-in-4
returns-in-4 c = sym (laws.place_desks _ _ (omega arith))

pub returns-in_default : goal.returns-in_default
returns-in_default c = sym (laws.place_plain _ _ c.requires.0 (omega arith) (omega arith))
