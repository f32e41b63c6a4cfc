use native.Mathlib.Omega.{arith}
use Rattle.sheet.proofs.MarkLaws as laws
use Rattle.sheet.proofs.marks.mark_of.Goals as goal

pub returns-then-e-lt16 : goal.returns-then-e-lt16
returns-then-e-lt16 c = laws.mark_head c.args.v c.args.e c.args.count (omega arith)

pub returns-then-count-e : goal.returns-then-count-e
returns-then-count-e c = laws.mark_beyond c.args.v c.args.e c.args.count (omega arith) (omega arith)

pub returns-then-v-eq1 : goal.returns-then-v-eq1
returns-then-v-eq1 c = laws.mark_linked c.args.v c.args.e c.args.count (omega arith) (omega arith) c.if-v-eq1.true

pub returns : goal.returns
returns c = laws.mark_loose c.args.v c.args.e c.args.count (omega arith) (omega arith) c.if-v-eq1.false
