use Rattle.std.proofs.Common.{rules}
use Rattle.image.specs.Form.{per_desk}
use Rattle.range.proofs.is_step.Goals as goal

pub returns-then-s-le-S6 : goal.returns-then-s-le-S6
unfolding per_desk
returns-then-s-le-S6 c = search rules
