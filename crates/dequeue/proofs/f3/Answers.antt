use Rattle.hands.proofs.FlushLaws.{fence_n}
use Rattle.dequeue.proofs.FormLaws.{own_place}
use Rattle.dequeue.proofs.f3.Goals as goal

pub fence_line-r-requires : goal.fence_line-r-requires
fence_line-r-requires c = let p = c.requires in (p.0, p.2, own_place _ _ _ c.by_form-h.ensures p.0)

pub leave-rest-requires : goal.leave-rest-requires
leave-rest-requires c = (c.requires.0, rw (c.fence_line-r.ensures, fence_n) c.requires.1)

pub returns : goal.returns
returns c = rw (c.leave-rest.ensures, c.fence_line-r.ensures, c.by_form-h.ensures)
