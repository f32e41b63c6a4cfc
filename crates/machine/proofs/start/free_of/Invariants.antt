use mathlib.Core.Path.{◌≡◌}
use Rattle.machine.specs.Laid.{start_free}
use Rattle.machine.proofs.start.free_of.Given as goal

abbrev pub invariant-loop-i : goal.invariant-loop-i
invariant-loop-i l = l.w ≡ start_free l.fn.g l.fn.d l.i
