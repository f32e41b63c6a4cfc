use Rattle.std.proofs.Common.{arith}
use Rattle.std.proofs.lemmas.Grind.{common_steps}
use Rattle.range.specs.Parts.{flush_in}
use Rattle.range.proofs.flushes.flush_fits.Goals as goal

pub returns-then-c-top : goal.returns-then-c-top
unfolding flush_in
returns-then-c-top c = grind (arith, common_steps)

pub returns-else-c-top : goal.returns-else-c-top
unfolding flush_in
returns-else-c-top c = grind (arith, common_steps)
