use mathlib.Core.Path.{◌≡◌}
use mathlib.Core.Bool.{false}
use Rattle.lists.specs.Find.{any}
use Rattle.judging.specs.Place.{due}
use Rattle.judging.proofs.reading.History.any_due.Given as goal

abbrev pub invariant-loop-j : goal.invariant-loop-j
invariant-loop-j l = any (due l.self.bytes.now l.taken) l.j ≡ false
