use mathlib.Core.Path.{◌≡◌}
use Rattle.lists.specs.Tab.{over}
use Rattle.calls.specs.Line.{index_bytes}
use Rattle.linecalls.proofs.put_indices.Given as goal

abbrev pub invariant-loop-i : goal.invariant-loop-i
invariant-loop-i l = l.b ≡ over l.initial.b 0 (index_bytes l.contents l.i)
