use Rattle.dequeue.proofs.FormLaws.{own_place}
use Rattle.dequeue.proofs.f6.Goals as goal

pub fence_line-r-requires : goal.fence_line-r-requires
fence_line-r-requires c = let p = c.requires in (p.0, p.1, own_place _ _ _ c.by_form-own.ensures p.0)

pub returns : goal.returns
returns c = rw (c.touching.ensures, c.going.ensures, c.fence_line-r.ensures, c.by_form-own.ensures)
