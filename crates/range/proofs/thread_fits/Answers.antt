use Rattle.std.proofs.Common.{arith}
use Rattle.std.proofs.lemmas.Grind.{common_steps}
use Rattle.machine.specs.Range.{thread_fits}
use Rattle.range.proofs.Parts.{read_is}
use Rattle.range.proofs.thread_fits.Goals as goal

pub returns-then-is_link : goal.returns-then-is_link
unfolding thread_fits
returns-then-is_link c = grind (arith, common_steps, read_is)

pub returns-else-is_link : goal.returns-else-is_link
unfolding thread_fits
returns-else-is_link c = grind (arith, common_steps, read_is)
