use borrow.Author.Rules.{rules}
use Rattle.library.proofs.line.uq_line.Goals as goal

pub returns : goal.returns
returns c = record { answers = c.line.ensures.answers; written = c.line.ensures.written }
