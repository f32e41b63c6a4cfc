use Rattle.dequeue.proofs.s6.Goals as goal

pub returns : goal.returns
returns c = c.store_index.ensures
