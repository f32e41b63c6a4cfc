use mathlib.Core.Path.{◌≡◌}
use mathlib.Core.Bool.{false}
use Rattle.plainway.specs.Noting.{is_noted}
use Rattle.plainway.proofs.noting.is_noted.Given as goal

abbrev pub invariant-loop-i : goal.invariant-loop-i
invariant-loop-i l = is_noted l.b l.i l.x l.n ≡ false
