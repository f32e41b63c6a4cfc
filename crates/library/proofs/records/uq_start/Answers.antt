use borrow.Author.Rules.{rules}
use Rattle.library.proofs.records.uq_start.Goals as goal

pub returns : goal.returns
returns c = record { answers = c.start.ensures.answers; written = c.start.ensures.written }
