use mathlib.Core.Path.{ap, ◌∙◌}
use Rattle.answer.specs.declared.Told.{Told}
use Rattle.calls.specs.Packed.{packed}
use Rattle.imagecalls.proofs.export_desks.Goals as goal

pub returns : goal.returns
returns c = record { answers = c.packed_answer.ensures ∙ ap (λ (t : Told). packed t 0) c.export_desks-each.ensures.answers; bytes = c.export_desks-each.ensures.bytes }
