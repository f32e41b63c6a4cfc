use mathlib.Core.Path.{refl}
use Rattle.image.specs.Layout.{no_heads}
use Rattle.image.proofs.blank.no_heads.Goals as goal

pub returns : goal.returns
unfolding no_heads
returns c = refl
