use Rattle.image.specs.Layout.{no_contents}
use Rattle.lists.specs.Tab.{front}
use Rattle.endtable.specs.Picks.{picked_node}
use mathlib.Core.Path.{◌≡◌}
use Rattle.endtable.proofs.ending.ending_image.Given as goal

abbrev pub invariant-loop-i : goal.invariant-loop-i
invariant-loop-i l = l.nodes ≡ front (picked_node l.t l.picks l.z) l.i no_contents
