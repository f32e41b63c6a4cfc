use mathlib.Core.Path.{ap, ◌∙◌}
use Rattle.answer.specs.Answers.{told}
use Rattle.calls.specs.Packed.{packed}
use Rattle.recordcalls.proofs.packed_event.Goals as goal

pub packed_of-requires : goal.packed_of-requires
packed_of-requires c = c.reply_of.ensures.1

pub returns : goal.returns
returns c = c.packed_of.ensures ∙ ap (packed (told c.args.a)) c.reply_of.ensures.0
