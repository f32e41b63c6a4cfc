use Rattle.dequeue.proofs.FormLaws.{own_place}
use Rattle.dequeue.proofs.d3.Goals as goal

pub flush_line-r-requires : goal.flush_line-r-requires
flush_line-r-requires c = let p = c.requires in (p.0, p.1, own_place _ _ _ c.by_form-h.ensures p.0)

pub returns : goal.returns
returns c = rw (c.touching.ensures, c.going.ensures, c.flush_line-r.ensures, c.by_form-h.ensures)
