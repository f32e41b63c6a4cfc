use mathlib.Core.Path.{◌≡◌}
use Rattle.lists.specs.Tab.{front}
use Rattle.image.specs.Layout.{no_heads}
use Rattle.record.specs.Layout.{long_in}
use Rattle.record.proofs.reading.longs_in.Given as goal

abbrev pub invariant-loop-i : goal.invariant-loop-i
invariant-loop-i l = l.l ≡ front (long_in l.s l.at) l.i no_heads
