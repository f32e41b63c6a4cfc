use Rattle.image.specs.Recovered.{head_of}
use Rattle.image.proofs.HeadLaws.{lines_few}
use Rattle.converting.proofs.desks.reheaded_of.Goals as goal

pub head_of-h-requires : goal.head_of-h-requires
head_of-h-requires c = rw c.shape.ensures c.requires.0

pub heads_with-heads-requires : goal.heads_with-heads-requires
heads_with-heads-requires c = lines_few _ c.requires.1

pub returns : goal.returns
unfolding head_of
returns c = rw (c.heads_with-heads.ensures, c.head_of-h.ensures, c.shape.ensures)
