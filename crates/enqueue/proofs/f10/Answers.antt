use Rattle.enqueue.proofs.f10.Goals as goal

pub returns : goal.returns
returns c = rw (c.touching.ensures, c.going.ensures, c.fence_line-r.ensures)
