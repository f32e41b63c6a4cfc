use native.Mathlib.Omega.{arith}
use Rattle.image.specs.Layout.{head_in, image_shape, image_bytes}
use Rattle.codec.proofs.Laws as laws
use Rattle.codec.proofs.Shapes as shapes
use Rattle.codec.proofs.images.put_image.Goals as goal

pub put_head-requires : goal.put_head-requires
put_head-requires c = let p = c.requires in rw c.shape-z.ensures (p.0, (p.1.1.0, omega (arith, p.1.1.1, shapes.size_from (image_shape c.args.g))))

pub put_nodes-requires : goal.put_nodes-requires
put_nodes-requires c = let p = c.requires in rw c.shape-z.ensures (p.0, (p.1.0, omega (arith, p.1.1.1, c.put_head.auto.b)))

pub returns : goal.returns
unfolding image_bytes
returns c = rw (c.put_nodes.ensures, c.put_head.ensures, c.shape-z.ensures) (laws.image_over c.args.b.now (image_shape c.args.g) (head_in c.args.g) c.args.g.nodes c.requires.0)
