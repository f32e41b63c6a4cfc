use Prim.Native.Nat.{◌≤◌}
use mathlib.Core.Path.{◌≡◌}
use Rattle.endtable.specs.Picks.{turned_of}
use Rattle.sheet.specs.Order.{turns_at}
use Rattle.sheet.proofs.turn.turn.Given as goal

abbrev pub invariant-loop-i : goal.invariant-loop-i
invariant-loop-i l = (l.i ≤ l.lines) × (turned_of l.counts l.i l.picks ≡ turned_of l.counts l.lines l.initial.picks) × (turns_at l.counts l.i l.picks ≡ turns_at l.counts l.lines l.initial.picks)
