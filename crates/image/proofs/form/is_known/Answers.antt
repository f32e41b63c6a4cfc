use native.Mathlib.Omega.{arith}
use Rattle.image.proofs.FormLaws as laws
use Rattle.image.proofs.form.is_known.Goals as goal

pub returns-in_default : goal.returns-in_default
returns-in_default c = laws.known_none _ (omega arith) (omega arith) (omega arith)

pub returns-in_default-2 : goal.returns-in_default-2
returns-in_default-2 c = laws.known_none _ (omega arith) (omega arith) (omega arith)

pub returns-in-1 : goal.returns-in-1
returns-in-1 c = laws.known_four _ (omega arith)

pub returns-in-1-2 : goal.returns-in-1-2
returns-in-1-2 c = laws.known_low _ (omega arith) (omega arith)
