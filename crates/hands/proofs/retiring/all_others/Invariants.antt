use Rattle.hands.specs.Others.{others_below}
use mathlib.Core.Path.{◌≡◌}
use Rattle.hands.proofs.retiring.all_others.Given as goal

abbrev pub invariant-loop-u : goal.invariant-loop-u
invariant-loop-u l = l.w ≡ others_below l.m l.k l.u
