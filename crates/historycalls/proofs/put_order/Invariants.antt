use mathlib.Core.Path.{◌≡◌}
use lib.ListN.{take}
use Rattle.lists.specs.Tab.{over}
use Rattle.historycalls.proofs.put_order.Given as goal

abbrev pub invariant-loop-i : goal.invariant-loop-i
invariant-loop-i l = l.b ≡ over l.initial.b 0 (take l.i l.order)
