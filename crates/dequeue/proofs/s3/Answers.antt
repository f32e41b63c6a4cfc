use Rattle.dequeue.proofs.s3.Goals as goal

pub returns : goal.returns
returns c = c.store_index.ensures
