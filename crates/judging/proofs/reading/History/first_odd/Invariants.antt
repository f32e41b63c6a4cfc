use Prim.Native.Nat.{◌-◌}
use mathlib.Core.Path.{◌≡◌}
use Rattle.lists.specs.Find.{least}
use Rattle.judging.specs.History.{count_in, odd, first_odd}
use Rattle.judging.proofs.reading.History.first_odd.Given as goal

abbrev pub invariant-loop-i : goal.invariant-loop-i
invariant-loop-i l = let s = l.self.bytes.now in first_odd s ≡ least (odd s) (count_in s - l.i) l.i
