use Rattle.record.proofs.reading.flush_at.Goals as goal

pub returns : goal.returns
returns c = rw (c.word_at-item.ensures, c.long_at-index.ensures)
