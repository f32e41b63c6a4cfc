use Rattle.std.proofs.Common.{◌≤◌}
use Rattle.many.proofs.print_all.Given as goal

abbrev pub invariant-loop-done : goal.invariant-loop-done
invariant-loop-done g l = l.refused ≤ l.done
