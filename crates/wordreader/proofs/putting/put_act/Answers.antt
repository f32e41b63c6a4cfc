use native.Mathlib.Omega.{arith}
use Rattle.wordreader.proofs.PutLaws as puts
use Rattle.wordreader.proofs.putting.put_act.Goals as goal

pub put_one_head-requires : goal.put_one_head-requires
put_one_head-requires c = (c.requires.0, omega (arith, c.requires.1, c.requires.4, puts.nodes_behind c.args.g))
