use mathlib.Core.Path.{◌≡◌}
use mathlib.Core.Bool.{false}
use Rattle.plainway.specs.Noting.{differs}
use Rattle.plainway.proofs.noting.is_at.Given as goal

abbrev pub invariant-loop-i : goal.invariant-loop-i
invariant-loop-i l = differs l.b l.at l.x l.i ≡ false
