use mathlib.Core.Path.{refl}
use Rattle.image.specs.Layout.{no_contents}
use Rattle.image.proofs.blank.no_contents.Goals as goal

pub returns : goal.returns
unfolding no_contents
returns c = refl
