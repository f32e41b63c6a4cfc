use mathlib.Core.Path.{refl}
use Rattle.machine.specs.Record.{blank_nodes}
use Rattle.machine.proofs.blank.blank_nodes.Goals as goal

pub returns : goal.returns
unfolding blank_nodes
returns c = refl
