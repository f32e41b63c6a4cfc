use Prim.Native.Nat.{◌-◌}
use mathlib.Core.Path.{◌≡◌}
use Rattle.lists.specs.Find.{least}
use Rattle.image.specs.Recovered.{dummy_of}
use Rattle.image.proofs.RecoveredLaws.{unrecovered}
use Rattle.image.proofs.nodes.dummy.Given as goal

abbrev pub invariant-loop-i : goal.invariant-loop-i
invariant-loop-i g l = dummy_of (g.S.Nodes.image l.s) ≡ least (unrecovered (g.S.Nodes.image l.s)) ((g.S.Nodes.image l.s).n - l.i) l.i
