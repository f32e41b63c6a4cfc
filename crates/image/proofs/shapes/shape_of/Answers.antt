use Rattle.std.proofs.Common.{arith}
use Rattle.std.proofs.lemmas.Grind.{common_steps}
use Rattle.image.specs.Form.{per_desk}
use Rattle.image.proofs.shapes.shape_of.Goals as goal

pub returns-then-z-t : goal.returns-then-z-t
unfolding per_desk
returns-then-z-t c = grind (arith, common_steps)

pub returns : goal.returns
unfolding per_desk
returns c = grind (arith, common_steps)
