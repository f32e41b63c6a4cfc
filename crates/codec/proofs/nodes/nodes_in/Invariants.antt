use mathlib.Core.Path.{◌≡◌}
use Rattle.codec.proofs.Laws as laws
use Rattle.codec.proofs.nodes.nodes_in.Given as goal

abbrev pub invariant-loop-i : goal.invariant-loop-i
invariant-loop-i l = l.nodes ≡ laws.nodes_to l.z l.s l.i
