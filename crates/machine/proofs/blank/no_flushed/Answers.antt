use mathlib.Core.Path.{refl}
use Rattle.machine.specs.Record.{no_flushed}
use Rattle.machine.proofs.blank.no_flushed.Goals as goal

pub returns : goal.returns
unfolding no_flushed
returns c = refl
