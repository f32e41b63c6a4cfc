use mathlib.Core.Path.{refl, ap}
use Rattle.answer.specs.Answers.{told}
use Rattle.image.specs.Form.{known, per_desk}
use Rattle.converting.proofs.narrow.Goals as goal

pub convert-requires : goal.convert-requires
unfolding known per_desk
convert-requires c = (refl, refl)

pub returns : goal.returns
returns c = record { answers = ap told c.convert.ensures.answers; bytes = c.convert.ensures.bytes }
