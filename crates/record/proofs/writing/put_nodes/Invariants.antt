use mathlib.Core.Path.{◌≡◌}
use Rattle.lists.specs.Tab.{over, joined}
use Rattle.record.specs.Layout.{node_part}
use Rattle.record.proofs.writing.put_nodes.Given as goal

abbrev pub invariant-loop-i : goal.invariant-loop-i
invariant-loop-i l = l.b ≡ over l.initial.b 146 (joined (node_part l.m) l.i)
