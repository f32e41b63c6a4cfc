use mathlib.Core.Path.{refl}
use Rattle.parcels.specs.Started.{no_bytes}
use Rattle.parcels.proofs.no_bytes.Goals as goal

pub returns : goal.returns
unfolding no_bytes
returns c = refl
