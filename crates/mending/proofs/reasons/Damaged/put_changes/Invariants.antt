use mathlib.Core.Path.{◌≡◌}
use lib.ListN.{length}
use Rattle.lists.specs.Tab.{over}
use Rattle.image.specs.Layout.{image_in}
use Rattle.mending.specs.Mended.{changes}
use Rattle.mending.proofs.reasons.Damaged.put_changes.Given as goal

abbrev pub invariant-loop-i : goal.invariant-loop-i
invariant-loop-i l =
    (l.at ≡ length (changes (image_in l.self.lying.bytes.now) l.i)) × (l.l ≡ over l.initial.l 0 (changes (image_in l.self.lying.bytes.now) l.i))
