use Prim.Native.Nat.{◌-◌, ◌^◌, ◌<◌}
use mathlib.Core.Path.{◌≡◌}
use lib.ListN.{length}
use Rattle.lists.specs.Tab.{over}
use Rattle.plainruns.specs.Turns.{turn_of, turn_in}
use Rattle.plainruns.proofs.turns.turn_of.Given as goal

abbrev pub invariant-loop-j : goal.invariant-loop-j
invariant-loop-j l = (length l.picks ≡ 6) × (l.w ≡ l.base ^ (l.n - l.j)) × (l.x < l.base ^ (l.n - l.j)) × (turn_in l.base l.n l.k ≡ over l.picks l.j (turn_of l.base (l.n - l.j) l.x))
