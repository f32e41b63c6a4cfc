use Prim.Native.Nat.{◌-◌}
use mathlib.Core.Path.{◌≡◌}
use Rattle.lists.specs.Find.{least}
use Rattle.image.specs.Recovered.{first_unclear}
use Rattle.image.proofs.RecoveredLaws.{unclear}
use Rattle.image.proofs.nodes.first_unclear.Given as goal

abbrev pub invariant-loop-i : goal.invariant-loop-i
invariant-loop-i g l = first_unclear (g.S.Nodes.image l.s) ≡ least (unclear (g.S.Nodes.image l.s)) ((g.S.Nodes.image l.s).n - l.i) l.i
