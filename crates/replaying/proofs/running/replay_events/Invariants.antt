use Rattle.replaying.proofs.ReplayLaws as laws
use Rattle.replaying.proofs.running.replay_events.Given as goal

abbrev pub invariant-loop-i : goal.invariant-loop-i
invariant-loop-i l = laws.Under l.s l.i l.m (laws.replayed_by l.known)
