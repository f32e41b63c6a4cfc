use mathlib.Core.Path.{◌≡◌}
use Rattle.plainproof.specs.Plain.{start_machine, event_since, lines_in, played_at}
use Rattle.plainruns.proofs.playing.run_picked.Given as goal

abbrev pub invariant-loop-i : goal.invariant-loop-i
invariant-loop-i l = l.m ≡ played_at l.picks (lines_in l.s) (start_machine l.s) (event_since l.s) l.i
