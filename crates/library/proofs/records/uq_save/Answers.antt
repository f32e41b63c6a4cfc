use borrow.Author.Rules.{rules}
use Rattle.library.proofs.records.uq_save.Goals as goal

pub returns : goal.returns
returns c = record { answers = c.save.ensures.answers; written = c.save.ensures.written }
