use Rattle.lists.proofs.WordLaws as laws
use Rattle.bits.proofs.total.Goals as goal

pub returns : goal.returns
returns c = laws.ones_count 64 c.args.w c.ranges.w.fits
