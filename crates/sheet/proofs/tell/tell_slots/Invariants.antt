use Prim.Native.Nat.{◌+◌, ◌*◌, ◌≤◌}
use mathlib.Core.Path.{◌≡◌}
use lib.ListN.{length, get_or}
use Rattle.sheet.specs.Told.{Told}
use Rattle.sheet.proofs.tell.tell_slots.Given as goal

abbrev pub invariant-loop-c : goal.invariant-loop-c
invariant-loop-c l = (l.from ≤ l.c) × (l.c ≤ l.count) × (l.p ≡ get_or l.ends l.c 0) × (l.p ≤ 21 + 11 * l.c) × Told l.ranks l.items l.slots l.picks l.head l.c l.end l.ends × (length l.end ≡ 11468) × (length l.ends ≡ 1041)
