use mathlib.Core.Path.{◌∙◌}
use Rattle.image.proofs.EqualLaws.{equal_is}
use Rattle.image.proofs.same.is_same.Goals as goal

pub returns : goal.returns
returns c = c.eq.ensures ∙ equal_is c.args.a c.args.b
