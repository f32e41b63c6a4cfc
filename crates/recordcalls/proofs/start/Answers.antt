use mathlib.Core.Path.{ap, ◌∙◌}
use Rattle.answer.specs.Answers.{Answer, told}
use Rattle.calls.specs.Packed.{packed}
use Rattle.recordcalls.proofs.start.Goals as goal

pub returns : goal.returns
returns c = record { answers = c.packed_answer.ensures ∙ ap (λ (a : Answer). packed (told a) 0) c.put_start.ensures.answers; written = c.put_start.ensures.written }
