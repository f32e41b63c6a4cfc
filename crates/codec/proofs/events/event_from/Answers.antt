use Rattle.codec.proofs.events.event_from.Goals as goal

pub returns : goal.returns
returns c = rw c.word_at-item.ensures
