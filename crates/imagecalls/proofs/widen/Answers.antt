use mathlib.Core.Path.{ap, ◌∙◌}
use Rattle.answer.specs.declared.Told.{Told}
use Rattle.calls.specs.Packed.{packed}
use Rattle.imagecalls.proofs.widen.Goals as goal

pub returns : goal.returns
returns c = record { answers = c.packed_answer.ensures ∙ ap (λ (t : Told). packed t 0) c.widen-wide.ensures.answers; bytes = c.widen-wide.ensures.bytes }
