use Rattle.endtable.specs.Since.{since_joined}
use mathlib.Core.Path.{◌≡◌}
use Rattle.endtable.proofs.since.join_since.Given as goal

abbrev pub invariant-loop-k : goal.invariant-loop-k
invariant-loop-k l = l.since ≡ since_joined l.z l.threads l.initial.since l.l l.c l.k
