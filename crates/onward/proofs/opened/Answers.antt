use native.Mathlib.Omega.{arith}
use Rattle.codec.proofs.Accepted as codec
use Rattle.onward.proofs.Reached as laws
use Rattle.onward.proofs.opened.Goals as goal

pub bounds-s-5 : goal.bounds-s-5
bounds-s-5 c = omega (arith, (codec.schedule_taken c.args.s.now c.requires.0).long)

pub start-machine-requires : goal.start-machine-requires
start-machine-requires c = laws.nodes_small c.args.s.now c.args.d c.requires.1 c.requires.0

pub returns : goal.returns
returns c = laws.opened_is c.args.s.now c.args.d c.start-machine.result c.requires.1 c.start-machine.ensures
