use mathlib.Core.Path.{◌≡◌}
use Rattle.lists.specs.Tab.{over}
use Rattle.parcels.specs.Started.{packed_to}
use Rattle.parcels.proofs.packing.put_entries.Given as goal

abbrev pub invariant-loop-i : goal.invariant-loop-i
invariant-loop-i l = l.b ≡ over l.initial.b 0 (packed_to l.end l.parcels l.i)
