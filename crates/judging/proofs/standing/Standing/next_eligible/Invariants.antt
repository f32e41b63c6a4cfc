use Prim.Native.Nat.{◌-◌}
use mathlib.Core.Path.{◌≡◌}
use Rattle.lists.specs.Find.{least}
use Rattle.judging.specs.History.{count_in}
use Rattle.judging.specs.Place.{is_eligible, next_from}
use Rattle.judging.proofs.standing.Standing.next_eligible.Given as goal

abbrev pub invariant-loop-j : goal.invariant-loop-j
invariant-loop-j l = let s = l.self.history.bytes.now in next_from s l.self.place l.initial.j ≡ least (is_eligible s l.self.place) (count_in s - l.j) l.j
