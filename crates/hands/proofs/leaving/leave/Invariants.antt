use Rattle.machine.specs.Retire.{released}
use mathlib.Core.Path.{◌≡◌}
use Rattle.hands.proofs.leaving.leave.Given as goal

abbrev pub invariant-loop-i : goal.invariant-loop-i
invariant-loop-i l = l.r ≡ released l.initial.r l.k l.i
