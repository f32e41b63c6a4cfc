use Rattle.moments.specs.Seats.{seat_of, is_at}
use Rattle.lists.specs.Find.{least}
use Prim.Native.Nat.{◌-◌}
use mathlib.Core.Path.{◌≡◌}
use Rattle.endtable.proofs.row.Row.holds.Given as goal

abbrev pub invariant-loop-i : goal.invariant-loop-i
invariant-loop-i l = seat_of l.self.at l.self.count l.c ≡ least (is_at l.self.at l.c) (l.self.count - l.i) l.i
