use mathlib.Core.Path.{◌≡◌}
use Rattle.converting.proofs.DeskLaws as laws
use Rattle.converting.proofs.desks.heads_with.Given as goal

abbrev pub invariant-loop-k : goal.invariant-loop-k
invariant-loop-k l = l.heads ≡ laws.same_to l.h l.k
