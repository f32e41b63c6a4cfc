use mathlib.Core.Path.{◌≡◌}
use Rattle.image.specs.Layout.{image_in}
use Rattle.mending.proofs.Turns as turns
use Rattle.mending.proofs.reasons.Damaged.mended.Given as goal

abbrev pub invariant-loop-i : goal.invariant-loop-i
invariant-loop-i l = l.nodes ≡ turns.nodes_mended (image_in l.self.lying.bytes.now) l.i
