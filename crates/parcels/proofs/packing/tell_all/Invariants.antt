use mathlib.Core.Path.{◌≡◌}
use Rattle.parcels.proofs.PackLaws as laws
use Rattle.parcels.proofs.packing.tell_all.Given as goal

abbrev pub invariant-loop-p : goal.invariant-loop-p
invariant-loop-p l = l.p-items ≡ laws.moved_to l.w l.initial.p-items l.p-index
