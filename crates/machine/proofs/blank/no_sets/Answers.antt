use mathlib.Core.Path.{refl}
use Rattle.machine.specs.Record.{no_sets}
use Rattle.machine.proofs.blank.no_sets.Goals as goal

pub returns : goal.returns
unfolding no_sets
returns g c = refl
