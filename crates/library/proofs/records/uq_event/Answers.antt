use borrow.Author.Rules.{rules}
use Rattle.library.proofs.records.uq_event.Goals as goal

pub returns : goal.returns
returns c = record { answers = c.event.ensures.answers; written = c.event.ensures.written }
