use mathlib.Core.Path.{◌≡◌}
use Rattle.hands.specs.Sets.{late_from}
use Rattle.hands.proofs.flushing.late_from.Given as goal

abbrev pub invariant-loop-u : goal.invariant-loop-u
invariant-loop-u l = l.r ≡ late_from l.late l.k l.u
