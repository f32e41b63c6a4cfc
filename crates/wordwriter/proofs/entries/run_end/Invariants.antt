use Rattle.wordwriter.proofs.EntryLaws as entries
use mathlib.Core.Path.{◌≡◌}
use Prim.Native.Nat.{◌<◌}
use Rattle.spelling.specs.Writing.{run_end}
use Rattle.wordwriter.proofs.entries.run_end.Given as goal

abbrev pub invariant-loop-i : goal.invariant-loop-i
invariant-loop-i l = (l.j < l.i) × (run_end l.s l.j ≡ entries.ends l.s l.count l.i)
