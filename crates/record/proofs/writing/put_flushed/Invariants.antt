use mathlib.Core.Path.{◌≡◌}
use Rattle.lists.specs.Tab.{over, joined}
use Rattle.record.specs.Layout.{flush_part}
use Rattle.record.proofs.writing.put_flushed.Given as goal

abbrev pub invariant-loop-i : goal.invariant-loop-i
invariant-loop-i l = l.b ≡ over l.initial.b 2083 (joined (flush_part l.l) l.i)
