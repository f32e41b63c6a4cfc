use Rattle.dequeue.proofs.d1.Goals as goal

pub returns : goal.returns
returns c = rw (c.moving.ensures, c.index_read-x.ensures)
