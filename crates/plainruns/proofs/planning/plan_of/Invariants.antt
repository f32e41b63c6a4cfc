use Rattle.plainruns.proofs.PlanLaws as laws
use Rattle.plainruns.proofs.planning.plan_of.Given as goal

abbrev pub invariant-loop-i : goal.invariant-loop-i
invariant-loop-i l = laws.Coming l.s l.i l.m l.machine l.at
