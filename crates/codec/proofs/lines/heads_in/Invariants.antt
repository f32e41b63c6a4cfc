use mathlib.Core.Path.{◌≡◌}
use Rattle.codec.proofs.Laws as laws
use Rattle.codec.proofs.lines.heads_in.Given as goal

abbrev pub invariant-loop-k : goal.invariant-loop-k
invariant-loop-k l = l.heads ≡ laws.heads_to l.form l.s l.k
