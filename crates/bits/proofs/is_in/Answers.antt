use mathlib.Core.Path.{sym}
use Rattle.lists.proofs.WordLaws as laws
use Rattle.bits.proofs.is_in.Goals as goal

pub returns : goal.returns
returns c = sym (laws.has_at c.args.w c.args.i)
