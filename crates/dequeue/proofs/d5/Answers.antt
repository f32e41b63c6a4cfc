use Rattle.dequeue.proofs.d5.Goals as goal

pub returns : goal.returns
returns c = rw (c.moving.ensures, c.by_form-s.ensures)
