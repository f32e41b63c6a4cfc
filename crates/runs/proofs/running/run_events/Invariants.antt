use Rattle.runs.proofs.GoingLaws as laws
use Rattle.runs.proofs.running.run_events.Given as goal

abbrev pub invariant-loop-i : goal.invariant-loop-i
invariant-loop-i l = laws.Under l.s (laws.run_at l.g l.i l.m) l.rows l.since
