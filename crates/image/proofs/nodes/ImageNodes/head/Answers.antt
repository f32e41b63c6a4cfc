use Rattle.image.specs.Recovered.{head_of}
use Rattle.image.proofs.nodes.ImageNodes.head.Goals as goal

pub returns : goal.returns
unfolding head_of
returns c = rw (c.head_of.ensures, c.shape.ensures)
