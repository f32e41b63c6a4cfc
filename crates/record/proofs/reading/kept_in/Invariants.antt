use mathlib.Core.Path.{◌≡◌}
use Rattle.lists.specs.Tab.{front}
use Rattle.image.specs.Layout.{no_contents}
use Rattle.record.specs.Layout.{kept_in}
use Rattle.record.proofs.reading.kept_in.Given as goal

abbrev pub invariant-loop-i : goal.invariant-loop-i
invariant-loop-i l = l.l ≡ front (kept_in l.s) l.i no_contents
