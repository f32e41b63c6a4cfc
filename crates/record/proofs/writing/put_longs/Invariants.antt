use mathlib.Core.Path.{◌≡◌}
use Rattle.lists.specs.Tab.{over, joined}
use Rattle.record.specs.Layout.{long_part}
use Rattle.record.proofs.writing.put_longs.Given as goal

abbrev pub invariant-loop-i : goal.invariant-loop-i
invariant-loop-i l = l.b ≡ over l.initial.b l.at (joined (long_part l.l) l.i)
