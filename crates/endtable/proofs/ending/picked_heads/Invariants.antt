use Rattle.image.specs.Layout.{no_heads}
use Rattle.lists.specs.Tab.{front}
use Rattle.endtable.specs.Picks.{picked_head}
use mathlib.Core.Path.{◌≡◌}
use Rattle.endtable.proofs.ending.picked_heads.Given as goal

abbrev pub invariant-loop-k : goal.invariant-loop-k
invariant-loop-k l = l.heads ≡ front (picked_head l.t l.picks) l.k no_heads
