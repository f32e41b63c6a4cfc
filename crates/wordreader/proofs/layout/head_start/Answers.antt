use native.Mathlib.Omega.{arith}
use Rattle.wordreader.proofs.PutLaws as puts
use Rattle.wordreader.proofs.layout.head_start.Goals as goal

pub returns-in-2 : goal.returns-in-2
returns-in-2 c = puts.head_wide c.args.form c.args.k c.in-2.is

pub returns-in-4 : goal.returns-in-4
returns-in-4 c = puts.head_desks c.args.form c.args.k c.in-4.is

pub returns-in_default : goal.returns-in_default
returns-in_default c = puts.head_plain c.args.form c.args.k c.requires.0 (λ q. omega arith) (λ q. omega arith)
