use Rattle.std.proofs.Common.{arith}
use Rattle.std.proofs.lemmas.Grind.{common_steps}
use Rattle.image.specs.Form.{per_desk}
use Rattle.dequeue.proofs.is_still.Goals as goal

pub returns-then-form-eq4 : goal.returns-then-form-eq4
unfolding per_desk
returns-then-form-eq4 c = grind (arith, common_steps)

pub returns-else-form-eq4 : goal.returns-else-form-eq4
unfolding per_desk
returns-else-form-eq4 c = grind (arith, common_steps)
