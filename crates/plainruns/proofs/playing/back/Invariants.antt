use mathlib.Core.Path.{◌≡◌}
use Rattle.plainproof.specs.Plain.{backed}
use Rattle.plainruns.proofs.playing.back.Given as goal

abbrev pub invariant-loop-j : goal.invariant-loop-j
invariant-loop-j l = l.x ≡ backed l.picks l.r l.initial.x l.j
