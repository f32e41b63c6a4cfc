use Prim.Native.Nat.{◌-◌}
use mathlib.Core.Bool.{false}
use mathlib.Core.Path.{◌≡◌}
use Rattle.lists.specs.Find.{any, least}
use Rattle.image.specs.Recovered.{twins, has_twin, first_twin}
use Rattle.image.proofs.nodes.first_twin.Given as goal

-- no node below i has a lower-numbered twin
abbrev pub invariant-pairs : goal.invariant-pairs
invariant-pairs g l = (l.found ≡ (g.S.Nodes.image l.s).n) × (first_twin (g.S.Nodes.image l.s) ≡ least (has_twin (g.S.Nodes.image l.s)) ((g.S.Nodes.image l.s).n - l.i) l.i)

-- nor is one below j a twin of node i
abbrev pub invariant-loop-j : goal.invariant-loop-j
invariant-loop-j g l = (l.found ≡ (g.S.Nodes.image l.s).n) × (any (twins (g.S.Nodes.image l.s) l.i) l.j ≡ false)
