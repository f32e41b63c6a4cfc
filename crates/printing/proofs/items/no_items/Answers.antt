use mathlib.Core.Path.{refl}
use Rattle.machine.specs.Laid.{zeros}
use Rattle.printing.proofs.items.no_items.Goals as goal

pub returns : goal.returns
unfolding zeros
returns c = refl
