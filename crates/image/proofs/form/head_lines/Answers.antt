use native.Mathlib.Omega.{arith}
use Rattle.image.proofs.HeadLaws as laws
use Rattle.image.proofs.form.head_lines.Goals as goal

pub returns-in-4 : goal.returns-in-4
returns-in-4 c = laws.lines_desks _ (omega arith)

pub returns-in-3 : goal.returns-in-3
returns-in-3 c = laws.lines_pair _ (omega arith)

pub returns-in_default : goal.returns-in_default
returns-in_default c = laws.lines_one _ (omega arith) (omega arith)
