use mathlib.Core.Path.{refl}
use Rattle.parcels.specs.Started.{no_parcels}
use Rattle.parcels.proofs.entries.no_parcels.Goals as goal

pub returns : goal.returns
unfolding no_parcels
returns c = refl
