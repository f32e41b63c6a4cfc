use borrow.Author.Rules.{rules}
use Rattle.library.proofs.histories.uq_judge.Goals as goal

pub returns : goal.returns
returns c = record { answers = c.judge.ensures.answers; written = c.judge.ensures.written }
