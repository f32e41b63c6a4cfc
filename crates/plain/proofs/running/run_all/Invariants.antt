use Prim.Native.Nat.{◌-◌, ◌≤◌}
use Rattle.plainway.specs.Noting.{NotedTo}
use Rattle.plain.proofs.running.run_all.Given as goal

abbrev pub invariant-loop-k : goal.invariant-loop-k
invariant-loop-k g l = (l.k ≤ l.w.runs) × NotedTo l.s l.k l.b l.c

abbrev pub decreases-loop-k : goal.decreases-loop-k
decreases-loop-k g l = l.w.runs - l.k
