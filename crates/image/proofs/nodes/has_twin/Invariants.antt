use mathlib.Core.Bool.{false}
use mathlib.Core.Path.{◌≡◌}
use Rattle.lists.specs.Find.{any}
use Rattle.image.specs.Recovered.{twins}
use Rattle.image.proofs.nodes.has_twin.Given as goal

-- no node below j is a twin of node i
abbrev pub invariant-loop-j : goal.invariant-loop-j
invariant-loop-j g l = any (twins (g.S.Nodes.image l.s) l.i) l.j ≡ false
