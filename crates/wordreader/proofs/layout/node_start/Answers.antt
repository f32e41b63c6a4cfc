use native.Mathlib.Omega.{arith}
use Rattle.wordreader.proofs.PutLaws as puts
use Rattle.wordreader.proofs.layout.node_start.Goals as goal

pub returns-in-2-clause-start : goal.returns-in-2-clause-start
returns-in-2-clause-start c = (puts.start_wide c.args.g c.args.i c.requires.1 c.in-2.is).0

pub returns-in-4-clause-start : goal.returns-in-4-clause-start
returns-in-4-clause-start c = (puts.start_desks c.args.g c.args.i c.requires.1 (omega arith) c.in-4.is).0

pub returns-in_default-clause-start : goal.returns-in_default-clause-start
returns-in_default-clause-start c = (puts.start_plain c.args.g c.args.i c.requires.1 c.requires.0 (λ q. omega arith) (λ q. omega arith)).0
