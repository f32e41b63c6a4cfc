use Rattle.lists.proofs.WordLaws as laws
use Rattle.bits.proofs.lowest.Goals as goal

pub returns : goal.returns
returns c = laws.trailing_least 64 c.args.w
