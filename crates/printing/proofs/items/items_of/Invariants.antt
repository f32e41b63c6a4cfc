use mathlib.Core.Path.{◌≡◌}
use Prim.Native.Nat.{◌≤◌}
use Rattle.printing.proofs.ItemLaws as laws
use Rattle.printing.proofs.items.items_of.Given as goal

abbrev pub invariant-loop-p : goal.invariant-loop-p
invariant-loop-p l = (l.p ≤ l.c) × (l.items ≡ laws.filled l.g l.q.at l.p)
