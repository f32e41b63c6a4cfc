use mathlib.Core.Path.{◌≡◌}
use Rattle.lists.specs.Tab.{over, joined}
use Rattle.record.specs.Layout.{thread_part}
use Rattle.record.proofs.writing.put_threads.Given as goal

abbrev pub invariant-loop-i : goal.invariant-loop-i
invariant-loop-i l = l.b ≡ over l.initial.b 1938 (joined (thread_part l.m) l.i)
