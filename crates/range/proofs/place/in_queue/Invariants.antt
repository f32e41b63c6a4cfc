use Prim.Native.Nat.{◌≤◌, ◌<◌}
use mathlib.Core.Path.{◌≡◌}
use Rattle.machine.specs.Place.{reached, in_queue}
use Rattle.range.proofs.place.in_queue.Given as goal

abbrev pub invariant-loop-c : goal.invariant-loop-c
invariant-loop-c l = (l.c ≤ l.m.n) × ((l.x < l.m.n) × (in_queue l.m l.i ≡ reached l.m l.c l.x l.i))

abbrev pub decreases-loop-c : goal.decreases-loop-c
decreases-loop-c l = l.c
