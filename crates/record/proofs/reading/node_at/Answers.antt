use Rattle.record.proofs.reading.node_at.Goals as goal

pub returns : goal.returns
returns c = rw (c.long_at-index.ensures, c.word_at-item.ensures)
