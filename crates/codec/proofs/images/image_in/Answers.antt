use Rattle.image.specs.Layout.{shape_in, image_in}
use Rattle.codec.proofs.Lying as lying
use Rattle.codec.proofs.Shapes as shapes
use native.Mathlib.Omega.{arith}
use Rattle.codec.proofs.images.image_in.Goals as goal

pub shape_in-z-requires : goal.shape_in-z-requires
shape_in-z-requires c = let l = c.requires in omega (arith, l.long, (shapes.size_most (shape_in c.args.s.now) l.form l.nodes l.own).0)

pub heads_in-heads-requires : goal.heads_in-heads-requires
heads_in-heads-requires c = let l = c.requires in rw c.shape_in-z.ensures (l.form, lying.lines_lie _ _ l)

pub nodes_in-nodes-requires : goal.nodes_in-nodes-requires
nodes_in-nodes-requires c = let l = c.requires in rw c.shape_in-z.ensures (l.form, (l.nodes, l.long))

pub returns : goal.returns
unfolding image_in
returns c = rw (c.nodes_in-nodes.ensures, c.heads_in-heads.ensures, c.shape_in-z.ensures)
