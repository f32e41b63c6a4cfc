use Rattle.enqueue.proofs.a10.Goals as goal

pub returns : goal.returns
returns c = rw (c.touching.ensures, c.going.ensures, c.flush_line-r.ensures)
