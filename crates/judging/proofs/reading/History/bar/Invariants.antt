use mathlib.Core.Path.{◌≡◌}
use Rattle.judging.specs.Place.{bar_below}
use Rattle.judging.proofs.reading.History.bar.Given as goal

abbrev pub invariant-loop-j : goal.invariant-loop-j
invariant-loop-j l = l.bar ≡ bar_below l.self.bytes.now l.taken l.j
