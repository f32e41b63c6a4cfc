use mathlib.Core.Path.{◌≡◌}
use Rattle.schedule.specs.Layout.{count_in}
use Rattle.parcels.proofs.PackLaws as laws
use Rattle.parcels.proofs.packing.packed.Given as goal

abbrev pub invariant-loop-i : goal.invariant-loop-i
invariant-loop-i l = (l.last ≡ count_in l.s) × laws.Under l.s l.i l.m l.parcels l.count
