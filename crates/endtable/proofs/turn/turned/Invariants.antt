use Prim.Native.Nat.{◌≤◌}
use mathlib.Core.Path.{◌≡◌}
use Rattle.endtable.specs.Picks.{turned_of}
use Rattle.endtable.proofs.turn.turned.Given as goal

abbrev pub invariant-loop-i : goal.invariant-loop-i
invariant-loop-i l = (l.i ≤ l.initial.i) × (turned_of l.counts l.i l.p ≡ turned_of l.counts l.initial.i l.initial.p)
