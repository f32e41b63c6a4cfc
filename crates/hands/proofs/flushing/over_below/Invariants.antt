use mathlib.Core.Path.{◌≡◌}
use Rattle.hands.specs.Sets.{over_below}
use Rattle.hands.proofs.flushing.over_below.Given as goal

abbrev pub invariant-loop-u : goal.invariant-loop-u
invariant-loop-u l = l.r ≡ over_below l.over l.late l.u
