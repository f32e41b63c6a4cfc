use Rattle.endtable.specs.Picks.{crowded_at, is_crowded}
use Rattle.lists.specs.Find.{least}
use Prim.Native.Nat.{◌-◌}
use mathlib.Core.Path.{◌≡◌}
use Rattle.endtable.proofs.ending.first_crowded.Given as goal

abbrev pub invariant-loop-i : goal.invariant-loop-i
invariant-loop-i l = crowded_at l.counts l.lines ≡ least (is_crowded l.counts) (l.lines - l.i) l.i
