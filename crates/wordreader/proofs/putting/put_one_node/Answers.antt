use native.Mathlib.Omega.{arith}
use Rattle.wordreader.proofs.PutLaws as puts
use Rattle.wordreader.proofs.putting.put_one_node.Goals as goal

pub put_node_at-requires : goal.put_node_at-requires
put_node_at-requires c = (c.requires.0, omega (arith, c.node_start-at.ensures.start, c.requires.1, puts.node_within c.args.g c.args.i (omega (arith, c.if-g-i.false))))
