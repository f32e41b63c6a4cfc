use Rattle.endtable.specs.Picks.{prod}
use Prim.Native.Nat.{◌≤◌}
use mathlib.Core.Path.{◌≡◌}
use Rattle.endtable.proofs.ending.ending_count.Given as goal

abbrev pub invariant-loop-i : goal.invariant-loop-i
invariant-loop-i l = (l.p ≡ prod l.counts l.i) × (l.p ≤ 65536)
