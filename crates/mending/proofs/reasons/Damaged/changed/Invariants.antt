use mathlib.Core.Path.{◌≡◌}
use Rattle.image.specs.Layout.{image_in}
use Rattle.mending.specs.Mended.{changed}
use Rattle.mending.proofs.reasons.Damaged.changed.Given as goal

abbrev pub invariant-loop-i : goal.invariant-loop-i
invariant-loop-i l = l.count ≡ changed (image_in l.self.lying.bytes.now) l.i
