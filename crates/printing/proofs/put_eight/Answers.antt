use mathlib.Core.Path.{◌∙◌}
use Rattle.printing.proofs.Decimal as laws
use Rattle.printing.proofs.put_eight.Goals as goal

pub returns : goal.returns
returns c = c.put_four-2.ensures ∙ rw c.put_four.ensures (laws.write_fours c.args.b.now c.args.at c.args.x)
