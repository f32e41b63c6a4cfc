use borrow.Author.Rules.{rules}
use Rattle.library.proofs.records.uq_places.Goals as goal

pub returns : goal.returns
returns c = record { answers = c.places.ensures.answers; written = c.places.ensures.written }
