use mathlib.Core.Path.{ap, ◌∙◌}
use Rattle.answer.specs.declared.Told.{Told}
use Rattle.calls.specs.Packed.{packed}
use Rattle.imagecalls.proofs.narrow.Goals as goal

pub returns : goal.returns
returns c = record { answers = c.packed_answer.ensures ∙ ap (λ (t : Told). packed t 0) c.narrow-slim.ensures.answers; bytes = c.narrow-slim.ensures.bytes }
